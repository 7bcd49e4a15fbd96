-- What a change costs.
use Rattle.std.specs.Prelude.{◌≡◌, ℕ, ◌+◌, ◌≤◌}
use Rattle.pages.specs.PagesState.{PagesState}
use Rattle.key_index.specs.declared.prime_index.PrimeIndex.{PrimeIndex}
use Rattle.key_index.specs.declared.alt_index.AltIndex.{AltIndex}
use Rattle.key_index.specs.Standing.{prime_height, alt_height, alt_key}

-- at most so many pages are used up, and at most so many were asked for
pub record Spends (old new : PagesState) (most asks : ℕ) : Type 0 where
  pub few : old.available ≤ new.available + most
  pub asked : new.asked ≤ old.asked + asks

-- the index is one of the same key, for values of the same length, and at most so much higher
pub record PrimeGrows (old new : PrimeIndex) (more : ℕ) : Type 0 where
  pub width : new.width ≡ old.width
  pub height : prime_height new ≤ prime_height old + more

pub record AltGrows (old new : AltIndex) (more : ℕ) : Type 0 where
  pub width : new.width ≡ old.width
  pub prime : new.prime ≡ old.prime
  pub key : alt_key new ≡ alt_key old
  pub height : alt_height new ≤ alt_height old + more
