-- A record is taken by its head, and then its bytes.
use Rattle.std.proofs.Common.{◌≡◌, ◌∙◌, ℕ, ◌≤◌, Option, List, length, take, drop, subst, take_all, arith}
use Rattle.std.specs.Int.{w8, w32, from_le_bytes}
use Rattle.std.specs.Io.KnownBytes.{Consumes}
use Rattle.std.proofs.KnownBytes.{Consumes-trans}
use Rattle.lending.specs.Reading.{next_bytes}
use Rattle.replay.specs.Lists.{Takes}

pub takes_both : (a b c : Option (List ℕ)) (head bytes : List ℕ) (first then kind len : ℕ) → length head ≡ 5 → 5 ≤ first → length bytes ≡ len → len ≤ then
    → Consumes a b (take first head) → Consumes b c (take then bytes) → kind ≡ from_le_bytes w8 (next_bytes 1 head)
    → len ≡ from_le_bytes w32 (next_bytes 4 (drop 1 head)) → Takes a c kind bytes
takes_both a b c head bytes first then kind len long whole same full taken more kind_told length_told = record {
  head = head;
  long = long;
  kind_told = kind_told;
  length_told = same ∙ length_told;
  taken = Consumes-trans a b c head bytes (subst (Consumes a b) (take_all first head (omega arith)) taken) (subst (Consumes b c) (take_all then bytes (omega arith)) more);
}
