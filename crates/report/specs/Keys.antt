-- What is shown of a card does not depend on its keys.
use Rattle.std.specs.Prelude.{◌≡◌, ℕ, ◌<◌, ◌⊎◌, length}
use Rattle.card.specs.Pages.{Pages, page}
use Rattle.report.specs.Lines.{description}

-- two cards that differ at most in their keys, which are pages 6 to 10
pub record SameButKeys (p q : Pages) : Type 0 where
  pub count : length p ≡ length q
  pub each : (k : ℕ) → (k < 6) ⊎ (10 < k) → page p k ≡ page q k

-- whatever the keys are, the same is shown
abbrev pub KeysNotShown : Pages → Type 0
KeysNotShown p = (q : Pages) → SameButKeys p q → description p ≡ description q
