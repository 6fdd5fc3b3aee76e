-- 01, "Near list: k per stop": where the entries of a stop's list stand, and how many there are.
use Prim.Native.Nat.{ℕ, ◌+◌, ◌*◌, ◌<◌}
use mathlib.Core.Path.{◌≡◌, sym, ◌∙◌}
use mathlib.Core.List.{List}
use native.Mathlib.Nat.{mul-le-mul_right}
use native.Mathlib.Omega.{arith}
use lib.ListN.{length, drop, length-drop, length-take}
use lib.Seq.{get_or-drop, get_or-take}
use Rattle.rules.specs.SharedWords.{Listed}
use Rattle.rules.specs.Lists.{at}
use Rattle.rules.specs.Plan.{list_in}
use Rattle.rules.specs.Words.{Stop}

pub entry_at : (entries : List Stop) (count : ℕ) (v : Stop) (i : ℕ) → i < count → at entries (v * count + i) ≡ at (list_in count entries v) i
unfolding list_in
entry_at entries count v i h = sym (get_or-take count (drop (v * count) entries) i 0 h ∙ get_or-drop (v * count) entries i 0)

pub length_list : (entries : List Stop) (count n : ℕ) (v : Stop) → Listed entries count n → v < n → length (list_in count entries v) ≡ count
unfolding list_in
length_list entries count n v l h = simp (length-take, length-drop) (omega (arith, l.cells, mul-le-mul_right count h))
