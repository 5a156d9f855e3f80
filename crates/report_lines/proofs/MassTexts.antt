-- The text of a mass, whose decimals are printed behind a 1 that gives its place to the point.
use Rattle.std.proofs.Common.{◌≡◌, ℕ, ◌+◌, ◌*◌, ◌/◌, ◌%◌, ◌^◌, ◌<◌, ◌≤◌, zero, suc, List, [], ◌∷◌, ◌++◌, length, drop}
use Rattle.std.proofs.Common.{set, refl, sym, ap, ◌∙◌, arith}
use Rattle.std.proofs.Math.Nat.{pow-suc, div-div-eq-div-mul, mul_comm}
use Rattle.std.proofs.Math.Arith.{mod-mul}
use Rattle.std.proofs.lemmas.List.{append_assoc, drop-set, drop-drop}
use Rattle.std.proofs.lemmas.Fmt.{decimal_step, decimal_digit}
use Rattle.std.specs.Fmt.{decimal}
use Rattle.fixed_decimal.specs.DecimalTexts.{decimal_text, last_digits}
use Rattle.report_lines.specs.ReportLines.{mass_text}

-- the last digits of a number are those of the number without its last digit, and that one
last_digits-front : (k n : ℕ) → last_digits (suc k) n ≡ last_digits k (n / 10) ++ (48 + n % 10) ∷ []
last_digits-front zero n = let one : n / 10 ^ zero ≡ n = omega arith in rw one refl
last_digits-front (suc k) n =
    let moved : n / 10 ^ suc k ≡ n / 10 / 10 ^ k =
    rw (pow-suc 10 k, mul_comm (10 ^ k) 10) (sym (div-div-eq-div-mul n 10 (10 ^ k))) in
    rw (moved, last_digits-front k n) refl

pow_pos : (k : ℕ) → 0 < 10 ^ k
pow_pos zero = omega arith
pow_pos (suc k) = rw (pow-suc 10 k) (omega (arith, pow_pos k))

-- the k last digits behind a 1
pub decimal-behind_one : (k n : ℕ) → 2 * 10 ^ k ≤ 2 ^ 64 → decimal (10 ^ k + n % 10 ^ k) ≡ 49 ∷ last_digits k n
decimal-behind_one zero n few = let one : 10 ^ zero + n % 10 ^ zero ≡ 1 = omega arith in
    rw one (decimal_digit 1 (omega arith))
decimal-behind_one (suc k) n few =
    let power : 10 ^ suc k ≡ 10 ^ k * 10 = pow-suc 10 k in
    let some : 0 < 10 ^ k = pow_pos k in
    let rest : n % 10 ^ suc k ≡ n / 10 % 10 ^ k * 10 + n % 10 = rw power (mod-mul n some (omega arith)) in
    let number = 10 ^ suc k + n % 10 ^ suc k in
    let front : number / 10 ≡ 10 ^ k + n / 10 % 10 ^ k = omega arith in
    let last : number % 10 ≡ n % 10 = omega arith in
    let step : decimal number ≡ decimal (number / 10) ++ (48 + number % 10) ∷ [] =
    decimal_step number (omega arith) (omega arith) in
    step ∙ rw (front, last, decimal-behind_one k (n / 10) (omega arith), last_digits-front k n) refl

-- the decimals are written behind a 1, which gives its place to the point, and the whole part before it
pub mass_written : (mass point start end : ℕ) (bytes decimals text : List ℕ) → length decimals ≡ length bytes
    → end ≤ length bytes → point + length (decimal (10 ^ 12 + mass % 10 ^ 12)) ≡ end
    → drop point decimals ≡ decimal (10 ^ 12 + mass % 10 ^ 12) ++ drop end bytes
    → drop start text ≡ decimal (mass / 10 ^ 12) ++ drop point (set decimals point 46)
    → drop start text ≡ mass_text mass ++ drop end bytes
unfolding decimal_text
mass_written mass point start end bytes decimals text same within at written all =
    let behind : decimal (10 ^ 12 + mass % 10 ^ 12) ≡ 49 ∷ last_digits 12 mass =
    decimal-behind_one 12 mass (omega arith) in
    let inside : point < length decimals = omega (arith, ap length behind) in
    let digits : drop point decimals ≡ 49 ∷ (last_digits 12 mass ++ drop end bytes) = written
    ∙ ap (λ (l : List ℕ). l ++ drop end bytes) behind in
    let rest : drop (point + 1) decimals ≡ last_digits 12 mass ++ drop end bytes = sym (drop-drop 1 point decimals)
    ∙ ap (λ (l : List ℕ). drop 1 l) digits in
    all ∙ ap (λ (l : List ℕ). decimal (mass / 10 ^ 12) ++ l)
    (drop-set decimals point 46 inside ∙ ap (λ (l : List ℕ). 46 ∷ l) rest)
    ∙ sym (append_assoc (decimal (mass / 10 ^ 12)) (46 ∷ last_digits 12 mass) (drop end bytes))
