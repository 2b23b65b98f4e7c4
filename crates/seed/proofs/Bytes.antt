-- A block and its halves: each gives the other back.
use Rattle.std.proofs.Common.{◌≡◌, ℕ, ◌^◌, ◌<◌, List, ◌++◌, get_or, sym, refl, ◌∙◌, ap₂}
use Rattle.std.proofs.lemmas.List.FromFn.{fill_by_all}
use Rattle.cipher.specs.Words.{bytes_of}
use Rattle.cipher.proofs.BytesOfWords.{word_of_bytes, word_back}
use Rattle.seed.specs.Seed.{Block, block_of, halves_of}
use Rattle.seed.specs.declared.rounds.Halves.{Halves}

abbrev halves : ℕ → ℕ → Halves
halves x y = record { left = x; right = y }

pub halves_back : (h : Halves) → h.left < 2 ^ 64 → h.right < 2 ^ 64 → halves_of (block_of h) ≡ h
unfolding bytes_of
halves_back h l r = ap₂ halves (word_of_bytes h.left l) (word_of_bytes h.right r)

pub block_back : (b : List ℕ) → Block b → block_of (halves_of b) ≡ b
block_back b h =
    ap₂ (λ (x y : List ℕ). x ++ y) (word_back b 0 h.fits) (word_back b 8 h.fits)
    ∙ sym (fill_by_all (λ k. get_or b k 0) b 16 0 h.sized (λ k _. refl))
