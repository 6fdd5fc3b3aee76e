-- Demand 1: every input has exactly one number, the lowest for which there is a ground, and 0 where there is none.
use Prim.Native.Nat.{ℕ}
use mathlib.Core.Path.{◌≡◌}
use Rattle.rules.specs.Memory.{Carried, Lent}
use Rattle.rules.specs.Numbers.{call_checks, commit_number, descend_number, kick_number, lent_checks, load_number, search_number, undo_number, verdict}
use Rattle.demands.specs.Demands.{Call, Demand1, Ground, Made, Right, commit, committed, descended, descent, kick, kicked, load, loaded, search, searched, undo, undone}
use Rattle.demands.proofs.GroundLaws.{checks_rise, checks_of, fails_ground, ground_fails, more_lent, rest, told}
use Rattle.demands.proofs.RightLaws.{one_right, verdict_right}

number_right : (l : Lent) (c : Carried) (q : Call) → Right (Ground l c q) (verdict (checks_of l c q))
number_right l c q = verdict_right (Ground l c q) (checks_of l c q) (checks_rise l c q) (ground_fails l c q) (fails_ground l c q)

-- the numbers that the promises give
number_given : (l : Lent) (c : Carried) (q : Call) (number : ℕ) (l' : Lent) (c' : Carried) → Made l c number l' c' q → number ≡ verdict (checks_of l c q)
unfolding checks_of told more_lent rest load_number kick_number descend_number commit_number undo_number search_number call_checks lent_checks
number_given l c (load start) number l' c' (loaded p) = p.number_is
number_given l c (kick kind draw) number l' c' (kicked p) = p.number_is
number_given l c (descent keeps step budget) number l' c' (descended p) = p.number_is
number_given l c commit number l' c' (committed p) = p.number_is
number_given l c undo number l' c' (undone p) = p.number_is
number_given l c (search best step kind stop budget draw) number l' c' (searched p) = p.number_is

pub demand_1 : (l : Lent) (c : Carried) (q : Call) → Demand1 l c q
demand_1 l c q = record {
  number = verdict (checks_of l c q);
  right = number_right l c q;
  only = λ other r. one_right (Ground l c q) other (verdict (checks_of l c q)) r (number_right l c q);
  given = λ other l' c' made. number_given l c q other l' c' made;
}
