-- 01, "What the underwriter will try": "that any two results allowed by it coincide is proved". Two outcomes that a promise allows on the same
-- memory, state and arguments are one, but for the words that docs/EXCEPTIONS.md names: those that `Alike` does not.
use Prim.Native.Nat.{ℕ, ◌*◌}
use mathlib.Core.Path.{◌≡◌, sym, ap, subst, ◌∙◌}
use mathlib.Core.Logic.{◌≢◌}
use mathlib.Core.Bool.{Bool}
use native.Mathlib.Decide.{ℕ_discrete}
use lib.IntN.{ℤ, ◌+ℤ◌, ◌-ℤ◌, +ℤ-neg_ℤ_cancel}
use lib.ListN.{take}
use Rattle.rules.specs.Words.{Round, Time}
use Rattle.rules.specs.Queue.{waiting}
use Rattle.rules.specs.Memory.{Lent, Carried, Leaves}
use Rattle.rules.specs.Calls.{Done}
use Rattle.rules.specs.State.{State}
use Rattle.promises.specs.Promises.{Stands, Loads, Commits, Undoes, KicksOnce, Descends, Searches}

-- the state that is given back, and all words that are not spent
pub record Alike (l' : Lent) (c' : Carried) (l'' : Lent) (c'' : Carried) : Type 0 where
  pub state_same : c' ≡ c''
  pub round_same : l'.round ≡ l''.round
  pub places_same : l'.places ≡ l''.places
  pub waiting_same : waiting l'.queue c'.head c'.count ≡ waiting l''.queue c''.head c''.count
  pub flags_same : l'.flags ≡ l''.flags
  pub journal_same : take (5 * c'.held) l'.journal ≡ take (5 * c''.held) l''.journal

-- two outcomes with this number: a refusal leaves every word as it came
pub record Coincide (number : ℕ) (l' : Lent) (c' : Carried) (l'' : Lent) (c'' : Carried) : Type 0 where
  pub alike : Alike l' c' l'' c''
  pub refused : number ≢ 0 → l' ≡ l''

leaves_alike : {l : Lent} {c : Carried} {s : State} {head : ℕ} {l' : Lent} {c' : Carried} {l'' : Lent} {c'' : Carried} → Leaves l c s head l' c' → Leaves l c s head l'' c'' → Alike l' c' l'' c''
leaves_alike x y =
    record {
      state_same = λ i. record {
        head = (x.head_left ∙ sym y.head_left) i;
        count = (x.count_left ∙ sym y.count_left) i;
        held = (x.held_left ∙ sym y.held_left) i;
        time = (x.time_left ∙ sym y.time_left) i;
      };
      round_same = x.round_left ∙ sym y.round_left;
      places_same = x.places_left ∙ sym y.places_left;
      waiting_same = x.queue_left ∙ sym y.queue_left;
      flags_same = x.flags_left ∙ sym y.flags_left;
      journal_same = x.journal_left ∙ sym y.journal_left;
    }

same_alike : {l' l'' : Lent} {c' c'' : Carried} → l' ≡ l'' → c' ≡ c'' → Alike l' c' l'' c''
same_alike e f =
    record {
      state_same = f;
      round_same = ap (λ (l : Lent). l.round) e;
      places_same = ap (λ (l : Lent). l.places) e;
      waiting_same = λ i. waiting (e i).queue (f i).head (f i).count;
      flags_same = ap (λ (l : Lent). l.flags) e;
      journal_same = λ i. take (5 * (f i).held) (e i).journal;
    }

pub stands_coincide : {number : ℕ} {done : Done} {l : Lent} {c : Carried} {l' : Lent} {c' : Carried} {l'' : Lent} {c'' : Carried}
    → Stands number done l c l' c' → Stands number done l c l'' c'' → Coincide number l' c' l'' c''
stands_coincide {number} {l' = l'} {c' = c'} {l'' = l''} {c'' = c''} x y =
    record { alike = go (ℕ_discrete number 0); refused = λ h. x.lent_refused h ∙ sym (y.lent_refused h) }
  where
    go : Dec (number ≡ 0) → Alike l' c' l'' c''
    go (yes z) = leaves_alike (x.left z) (y.left z)
    go (no z) = same_alike (x.lent_refused z ∙ sym (y.lent_refused z)) (x.state_refused z ∙ sym (y.state_refused z))

-- ---- call by call
pub loads_coincide : {l : Lent} {c : Carried} {start : Round} {l' : Lent} {c' : Carried} {number : ℕ} {l'' : Lent} {c'' : Carried} {number'' : ℕ}
    → Loads l c start l' c' number → Loads l c start l'' c'' number'' → (number ≡ number'') × Coincide number l' c' l'' c''
loads_coincide {l} {c} {start} {l'' = l''} {c'' = c''} x y =
    let e = x.number_is ∙ sym y.number_is in
    (e, stands_coincide x.stands (subst (λ n. Loads l c start l'' c'' n) (sym e) y).stands)

pub commits_coincide : {l : Lent} {c : Carried} {l' : Lent} {c' : Carried} {number : ℕ} {l'' : Lent} {c'' : Carried} {number'' : ℕ}
    → Commits l c l' c' number → Commits l c l'' c'' number'' → (number ≡ number'') × Coincide number l' c' l'' c''
commits_coincide {l} {c} {l'' = l''} {c'' = c''} x y =
    let e = x.number_is ∙ sym y.number_is in
    (e, stands_coincide x.stands (subst (λ n. Commits l c l'' c'' n) (sym e) y).stands)

pub undoes_coincide : {l : Lent} {c : Carried} {l' : Lent} {c' : Carried} {number : ℕ} {l'' : Lent} {c'' : Carried} {number'' : ℕ}
    → Undoes l c l' c' number → Undoes l c l'' c'' number'' → (number ≡ number'') × Coincide number l' c' l'' c''
undoes_coincide {l} {c} {l'' = l''} {c'' = c''} x y =
    let e = x.number_is ∙ sym y.number_is in
    (e, stands_coincide x.stands (subst (λ n. Undoes l c l'' c'' n) (sym e) y).stands)

-- what is added to a number is told by the sum
added_once : (a b r s : ℤ) → a +ℤ r ≡ s → b +ℤ r ≡ s → a ≡ b
added_once a b r s e f = sym (+ℤ-neg_ℤ_cancel a r) ∙ ap (λ z. z -ℤ r) (e ∙ sym f) ∙ +ℤ-neg_ℤ_cancel b r

pub kicks_coincide : {l : Lent} {c : Carried} {kind x : ℕ} {l' : Lent} {c' : Carried} {x' number : ℕ} {change : ℤ} {l'' : Lent} {c'' : Carried} {x'' number'' : ℕ} {change'' : ℤ}
    → KicksOnce l c kind x l' c' x' number change → KicksOnce l c kind x l'' c'' x'' number'' change''
    → (number ≡ number'') × Coincide number l' c' l'' c'' × (x' ≡ x'') × (change ≡ change'')
kicks_coincide {l} {c} {kind} {x} {change = change} {l'' = l''} {c'' = c''} {x'' = x''} {change'' = change''} p q =
    let e = p.number_is ∙ sym q.number_is in
    let q'' = subst (λ n. KicksOnce l c kind x l'' c'' x'' n change'') (sym e) q in
    (e, stands_coincide p.stands q''.stands, p.draw_is ∙ sym q''.draw_is, added_once change change'' _ _ p.change_is q''.change_is)

pub descends_coincide : {l : Lent} {c : Carried} {keeps : Bool} {step budget : ℕ} {l' : Lent} {c' : Carried} {number : ℕ} {gain : Time} {units ended : ℕ} {l'' : Lent} {c'' : Carried} {number'' : ℕ} {gain'' : Time} {units'' ended'' : ℕ}
    → Descends l c keeps step budget l' c' number gain units ended → Descends l c keeps step budget l'' c'' number'' gain'' units'' ended''
    → (number ≡ number'') × Coincide number l' c' l'' c'' × (gain ≡ gain'') × (units ≡ units'') × (ended ≡ ended'')
descends_coincide {l} {c} {keeps} {step} {budget} {l'' = l''} {c'' = c''} {gain'' = gain''} {units'' = units''} {ended'' = ended''} p q =
    let e = p.number_is ∙ sym q.number_is in
    let q'' = subst (λ n. Descends l c keeps step budget l'' c'' n gain'' units'' ended'') (sym e) q in
    (e, stands_coincide p.stands q''.stands, p.gain_is ∙ sym q''.gain_is, p.units_is ∙ sym q''.units_is, p.ended_is ∙ sym q''.ended_is)

-- a search: also the second round that it is lent
pub searches_coincide : {l : Lent} {c : Carried} {b : Round} {step kind : ℕ} {stop : Bool} {budget x : ℕ}
    {l' : Lent} {c' : Carried} {b' : Round} {x' number : ℕ} {time : Time} {units kicks ended : ℕ} {l'' : Lent} {c'' : Carried} {b'' : Round} {x'' number'' : ℕ} {time'' : Time} {units'' kicks'' ended'' : ℕ}
    → Searches l c b step kind stop budget x l' c' b' x' number time units kicks ended → Searches l c b step kind stop budget x l'' c'' b'' x'' number'' time'' units'' kicks'' ended''
    → (number ≡ number'') × Coincide number l' c' l'' c'' × (b' ≡ b'') × (x' ≡ x'') × (time ≡ time'') × (units ≡ units'') × (kicks ≡ kicks'') × (ended ≡ ended'')
searches_coincide {l} {c} {b} {step} {kind} {stop} {budget} {x} {b' = b'} {number = number} {l'' = l''} {c'' = c''} {b'' = b''} {x'' = x''} {time'' = time''} {units'' = units''} {kicks'' = kicks''} {ended'' = ended''} p q =
    let e = p.number_is ∙ sym q.number_is in
    let q'' = subst (λ n. Searches l c b step kind stop budget x l'' c'' b'' x'' n time'' units'' kicks'' ended'') (sym e) q in (
      e,
      stands_coincide p.stands q''.stands,
      best (ℕ_discrete number 0) p.best_is p.best_refused q''.best_is q''.best_refused,
      p.draw_is ∙ sym q''.draw_is,
      p.time_is ∙ sym q''.time_is,
      p.units_is ∙ sym q''.units_is,
      p.kicks_is ∙ sym q''.kicks_is,
      p.ended_is ∙ sym q''.ended_is,
    )
  where
    best : {r : Round} → Dec (number ≡ 0) → (number ≡ 0 → b' ≡ r) → (number ≢ 0 → b' ≡ b) → (number ≡ 0 → b'' ≡ r) → (number ≢ 0 → b'' ≡ b) → b' ≡ b''
    best (yes z) f g h k = f z ∙ sym (h z)
    best (no z) f g h k = g z ∙ sym (k z)
