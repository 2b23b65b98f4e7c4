-- The steps of XORing in and of chaining.
use Rattle.std.proofs.Common.{◌≡◌, ℕ, zero, suc, ◌+◌, ◌-◌, ◌*◌, ◌/◌, ◌<◌, ◌≤◌, List, [], ◌∷◌, ◌++◌, length, get_or, take, drop, set, replicate, sym, refl, ap, ◌∙◌, ap₂, add-one, le_of_suc-le-suc, not-suc-le-zero, one-mul, zero-mul, suc-mul, length-append, arith}
use Rattle.std.proofs.lemmas.Nat.{div-mul-add}
use native.Mathlib.Nat.{div-eq_of_lt, mul-div_cancel}
use lib.Bits.{bit_xor, xor_zero_l}
use Rattle.std.proofs.lemmas.List.{take_all, take_at, drop_at, drop-drop}
use Rattle.seal.specs.Padding.{blocks, padded}
use Rattle.cipher.specs.Cipher.{BlockSize}
use Rattle.seal.specs.Chain.{xored, chained, last_result, ShortMessages}
use Rattle.seal.proofs.Padded.{at_least_one, at_most_16, length-padded}

pub xor_none : (v : List ℕ) → xored v [] ≡ v
xor_none [] = refl
xor_none (x ∷ xs) = refl

pub xor_start : (v p : List ℕ) → v ≡ xored v (take 0 p)
xor_start v p = sym (xor_none v)

-- one byte more of p XORed in
xor_byte : (v p : List ℕ) (i : ℕ) → i < length v → i < length p
    → set (xored v (take i p)) i (bit_xor (get_or (xored v (take i p)) i 0) (get_or p i 0)) ≡ xored v (take (suc i) p)
xor_byte [] p i h k = absurd (not-suc-le-zero h)
xor_byte (x ∷ xs) [] i h k = absurd (not-suc-le-zero k)
xor_byte (x ∷ xs) (y ∷ ys) zero h k = ap (λ (l : List ℕ). bit_xor x y ∷ l) (sym (xor_none xs))
xor_byte (x ∷ xs) (y ∷ ys) (suc i) h k =
    ap (λ (l : List ℕ). bit_xor x y ∷ l) (xor_byte xs ys i (le_of_suc-le-suc h) (le_of_suc-le-suc k))

pub xor_more : (v p b : List ℕ) (i : ℕ) → b ≡ xored v (take i p) → i < length v → i < length p
    → set b i (bit_xor (get_or b i 0) (get_or p i 0)) ≡ xored v (take (i + 1) p)
xor_more v p b i e h k =
    ap (λ (l : List ℕ). set l i (bit_xor (get_or l i 0) (get_or p i 0))) e ∙ xor_byte v p i h k ∙ ap (λ (n : ℕ). xored v (take n p)) (sym (add-one i))

pub xor_end : (v p b : List ℕ) (i : ℕ) → b ≡ xored v (take i p) → length p ≤ i → b ≡ xored v p
xor_end v p b i e h = e ∙ ap (xored v) (take_all i p h)

-- the steps of XORing in
pub ruleset xor_steps = (xor_start, xor_more, xor_end)

-- some blocks of b bytes of a text are chained into the block; the rest is left, and is cut to pieces of that size
pub record Chaining (e : List ℕ → List ℕ) (b : ℕ) (text : List ℕ) (size : ℕ) (rest block : List ℕ) : Type 0 where
  pub whole : size ≡ b
  pub count : ℕ
  pub left : rest ≡ drop (count * b) text
  pub within : count * b + length rest ≡ length text
  pub so_far : block ≡ chained e b text count

pub chain_start : (e : List ℕ → List ℕ) (b : ℕ) (text : List ℕ) (size : ℕ) (rest block : List ℕ) → size ≡ b → rest ≡ text → block ≡ replicate 16 0
    → Chaining e b text size rest block
chain_start e b text size rest block w r z = record {
  whole = w;
  count = 0;
  left = r ∙ ap (λ k. drop k text) (sym (zero-mul b));
  within = omega (arith, zero-mul b, ap (length {A = ℕ}) r);
  so_far = z;
}

pub chain_more : (e : List ℕ → List ℕ) (b : ℕ) (text : List ℕ) (size size' : ℕ) (rest part more block block' : List ℕ) → Chaining e b text size rest block
    → size' ≡ size → rest ≡ part ++ more → length part ≡ size → block' ≡ e (xored block part) → Chaining e b text size' more block'
chain_more e b text size size' rest part more block block' c w r l z =
    let k = c.count in
    let n : length part ≡ b = l ∙ c.whole in
    let next : drop (k * b) text ≡ part ++ more = sym c.left ∙ r in
    record {
      whole = w ∙ c.whole;
      count = suc k;
      left = sym (drop_at part more b n) ∙ ap (drop b) (sym next) ∙ drop-drop b (k * b) text ∙ ap (λ n. drop n text) (sym (suc-mul k b));
      within = omega (arith, suc-mul k b, c.within, ap (length {A = ℕ}) r, length-append part more);
      so_far = z ∙ ap e (ap₂ xored c.so_far (sym (ap (take b) next ∙ take_at part more b n)));
    }

pub chain_end : (e : List ℕ → List ℕ) (b : ℕ) (text : List ℕ) (size : ℕ) (rest block : List ℕ) → Chaining e b text size rest block → length rest < size
    → block ≡ chained e b text (length text / b)
chain_end e b text size rest block c h =
    c.so_far ∙ ap (chained e b text) (sym (ap (λ n. n / b) (sym c.within) ∙ div-mul-add c.count b (length rest) (omega (arith, c.whole))))

-- the steps of chaining
pub ruleset chain_steps = (chain_start, chain_more, chain_end)

-- all blocks of the padded message
pub chain_padded : (e : List ℕ → List ℕ) (b : ℕ) (m : List ℕ) → BlockSize b → chained e b (padded b m) (length (padded b m) / b) ≡ last_result e b m
chain_padded e b m s =
    let pos = at_least_one b s in
    ap (chained e b (padded b m)) (ap (λ n. n / b) (length-padded b m pos) ∙ mul-div_cancel (blocks b (length m)) pos)

-- zeros with p XORed in: p, and zeros behind it
xor_zeros : (n : ℕ) (p : List ℕ) → length p ≤ n → xored (replicate n 0) p ≡ p ++ replicate (n - length p) 0
xor_zeros n [] h = let k : n - 0 ≡ n = omega arith in xor_none (replicate n 0) ∙ ap (λ (j : ℕ). replicate j 0) (sym k)
xor_zeros zero (y ∷ ys) h = absurd (not-suc-le-zero h)
xor_zeros (suc n) (y ∷ ys) h =
    let k : suc n - length (y ∷ ys) ≡ n - length ys = omega arith in
    ap₂ (λ (x : ℕ) (l : List ℕ). x ∷ l) (xor_zero_l y) (xor_zeros n ys (le_of_suc-le-suc h) ∙ ap (λ (j : ℕ). ys ++ replicate j 0) (sym k))

-- a message shorter than a block fills one
one_block : (b n : ℕ) → 0 < b → n < b → blocks b n ≡ 1
unfolding blocks
one_block b n pos h = ap (λ k. k + 1) (div-eq_of_lt h)

pub short_messages : ShortMessages
short_messages e b m s h =
    let pos = at_least_one b s in
    let one = one_block b (length m) pos h in
    let l : length (padded b m) ≡ b = length-padded b m pos ∙ ap (λ k. k * b) one ∙ one-mul b in
    let z : 0 * b ≡ 0 = zero-mul b in
    ap (chained e b (padded b m)) one
    ∙ ap e
    (ap (λ k. xored (replicate 16 0) (take b (drop k (padded b m)))) z
    ∙ ap (xored (replicate 16 0)) (take_all b (padded b m) (omega arith))
    ∙ xor_zeros 16 (padded b m) (omega (arith, at_most_16 b s))
    ∙ ap (λ k. padded b m ++ replicate (16 - k) 0) l)
