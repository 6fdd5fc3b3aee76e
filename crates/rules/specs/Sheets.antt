-- 01, "Sheets": the input sheet, its checks, and the answer sheet. Assumes nothing.
use Rattle.std.specs.Prelude.{ℕ, zero, suc, ◌+◌, ◌-◌, ◌*◌, ◌/◌, min, max, ◌&&◌, List, [], ◌∷◌, ◌++◌, map, leb, eqb, length, drop}
use Rattle.rules.specs.Words.{Stop, Time, Legs}
use Rattle.rules.specs.Lists.{when◌then◌else◌, at, rising, each, every}
use Rattle.rules.specs.Bits.{bits, field, fields, bits_of, bytes_of}
use Rattle.rules.specs.Plan.{Plan, near_of, alpha_of}
use Rattle.rules.specs.Numbers.{Check, ◌or◌, verdict, within, good_sizes, good_step, good_list}
use Rattle.rules.specs.Search.{Settings, Answer, search, restart_after, stop_after}

-- "version 4 (is 1), step kind 2, stop flag 1, n 13, k 5, ka 3, spare 4 (zero); budget 32; seed 64"
pub record Header : Type 0 where
  pub version : ℕ
  pub step : ℕ
  pub stop : ℕ
  pub n : ℕ
  pub k : ℕ
  pub ka : ℕ
  pub spare : ℕ
  pub budget : ℕ
  pub seed : ℕ

unfoldable pub header_in : List ℕ → Header
header_in bs =
    record {
      version = field bs 0 4;
      step = field bs 4 2;
      stop = field bs 6 1;
      n = field bs 7 13;
      k = field bs 20 5;
      ka = field bs 25 3;
      spare = field bs 28 4;
      budget = field bs 32 32;
      seed = field bs 64 64;
    }

-- "Then the upper triangle row by row, 16 each; near list, then alpha list, 12 each": where the lists begin and end, in bits
unfoldable pub near_at : Header → ℕ
near_at h = 128 + 8 * (h.n * (h.n - 1))

unfoldable pub alpha_at : Header → ℕ
alpha_at h = near_at h + 12 * (h.n * h.k)

unfoldable pub end_at : Header → ℕ
end_at h = alpha_at h + 12 * (h.n * h.ka)

-- "Length: 16 + n(n-1) + the list bytes, rounded up"
unfoldable pub sheet_length : Header → ℕ
sheet_length h = (end_at h + 7) / 8

-- where the leg of stops i and j, i the smaller, stands in the upper triangle of n rows
unfoldable pub triangle_at : ℕ → Stop → Stop → ℕ
triangle_at n i j = i * (2 * n - i - 1) / 2 + (j - i - 1)

-- a leg and its return are one; the diagonal, which "decides nothing", is 0
unfoldable pub triangle_leg : ℕ → List Time → Legs
triangle_leg n triangle a b = when eqb a b then 0 else at triangle (triangle_at n (min a b) (max a b))

-- n rows of n legs
unfoldable pub matrix_of : ℕ → Legs → List Time
matrix_of n d = each (λ a. map (d a) (rising n 0)) (rising n 0)

unfoldable pub plan_on : Header → List ℕ → Plan
plan_on h bs =
    let triangle = fields 16 (h.n * (h.n - 1) / 2) (drop 128 bs) in
    record {
      n = h.n;
      matrix = matrix_of h.n (triangle_leg h.n triangle);
      k = h.k;
      near = fields 12 (h.n * h.k) (drop (near_at h) bs);
      ka = h.ka;
      alpha = fields 12 (h.n * h.ka) (drop (alpha_at h) bs);
    }

-- "a sheet means 0" for the kick kind; "A sheet's search has a journal of 512 entries"
unfoldable pub settings_on : Header → Settings
settings_on h = record {
  step = h.step;
  kind = 0;
  one_in = 16;
  stop = eqb h.stop 1;
  room = 512;
  restart = restart_after h.n;
  limit = stop_after h.n;
  budget = h.budget;
  draw = h.seed;
}

-- "Answer: version 4, ended 2, n 13, spare 13; time 32; units 32; kicks 32; round, 12 each; zero bits"
unfoldable pub answer_bytes : Answer → List ℕ
answer_bytes a =
    let head = bits 4 1 ++ (bits 2 a.ended ++ (bits 13 (length a.round) ++ bits 13 0)) in
    let figures = bits 32 a.time ++ (bits 32 a.units ++ bits 32 a.kicks) in
    bytes_of (head ++ (figures ++ each (bits 12) a.round))

-- the answer's length
unfoldable pub answer_length : ℕ → ℕ
answer_length n = 16 + (12 * n + 7) / 8

-- "For sheets: 9, 1, 2, 10, 4, 6"; "sheets: 2 to 128"
unfoldable pub sheet_checks : List ℕ → ℕ → List Check
sheet_checks bytes room =
    let bs = bits_of bytes in
    let h = header_in bs in
    let p = plan_on h bs in
    ((leb 16 (length bytes) && eqb h.version 1 && eqb h.spare 0) or 9)
    ∷ (within 2 128 h.n or 1)
    ∷ ((good_sizes h.k h.ka && good_step h.ka h.step && leb 1 h.seed) or 2)
    ∷ ((eqb (length bytes) (sheet_length h) && every (eqb 0) (drop (end_at h) bs)) or 10)
    ∷ (leb (answer_length h.n) room or 4)
    ∷ ((good_list h.n (near_of p) && good_list h.n (alpha_of p)) or 6)
    ∷ []

-- the number, and the lent answer bytes as they are left
pub record Outcome : Type 0 where
  pub number : ℕ
  pub answer : List ℕ

-- "Bytes beyond it stay"; a refusal changes no byte
unfoldable pub solve : List ℕ → List ℕ → Outcome
solve sheet lent =
    let bs = bits_of sheet in
    let h = header_in bs in
    elim (verdict (sheet_checks sheet (length lent))) [
      | zero ↦ let a = answer_bytes (search (plan_on h bs) (settings_on h)) in record { number = 0; answer = a ++ drop (length a) lent }
      | suc k ↦ record { number = suc k; answer = lent }
    ]

-- "The stdin program writes the answer, or one byte with the refusal number"
unfoldable pub written : List ℕ → List ℕ
written sheet =
    let bs = bits_of sheet in
    let h = header_in bs in
    elim (verdict (sheet_checks sheet (answer_length h.n))) [ zero ↦ answer_bytes (search (plan_on h bs) (settings_on h)) | suc k ↦ suc k ∷ [] ]
