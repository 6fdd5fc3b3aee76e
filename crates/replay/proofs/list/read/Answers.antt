-- A record that was read is what was taken, and so is one of kind 0, which ends the list.
use Rattle.std.proofs.Common.{◌≡◌, ◌∙◌, rules, length, drop, ap, sym, subst, inr, take_at}
use Rattle.std.specs.Int.{w8, w32, from_le_bytes}
use Rattle.lending.specs.Reading.{next_bytes}
use Rattle.replay.specs.Lists.{Takes}
use Rattle.replay.proofs.Lists.{takes_both}
use Rattle.replay.proofs.list.read.Goals as goal

pub returns-in-0 : goal.returns-in-0
returns-in-0 g c =
    let told = c.octet-kind.ensures.value ∙ ap (λ s. from_le_bytes w8 (next_bytes 1 s)) c.new-head.ensures in
    let size = c.size-length.ensures.value ∙ ap (λ s. from_le_bytes w32 (next_bytes 4 s)) (c.octet-kind.ensures.rest ∙ ap (λ s. drop 1 s) c.new-head.ensures) in
    inr (
      c.fill.new.bytes,
      takes_both _ _ _ c.fill-filled.new.bytes c.fill.new.bytes c.fill-filled.result c.fill.result 0 c.size-length.result (search rules) (search rules) (search rules)
          c.if-fill-length.false c.fill-filled.ensures.taken c.fill.ensures.taken (sym c.in-0.is ∙ told) size,
    )

pub returns-in_default : goal.returns-in_default
returns-in_default g c =
    let told = c.octet-kind.ensures.value ∙ ap (λ s. from_le_bytes w8 (next_bytes 1 s)) c.new-head.ensures in
    let size = c.size-length.ensures.value ∙ ap (λ s. from_le_bytes w32 (next_bytes 4 s)) (c.octet-kind.ensures.rest ∙ ap (λ s. drop 1 s) c.new-head.ensures) in
    let long : length c.fill.new.bytes ≡ c.size-length.result = search rules in
    let whole = takes_both _ _ _ c.fill-filled.new.bytes c.fill.new.bytes c.fill-filled.result c.fill.result c.octet-kind.result c.size-length.result (search rules) (search rules) long
    c.if-fill-length.false c.fill-filled.ensures.taken c.fill.ensures.taken told size in
    (search rules, search rules, search rules, subst (Takes _ _ _) (sym (take_at c.fill.new.bytes _ c.size-length.result long)) whole)
