-- What contracts see of a screen.
use Rattle.std.specs.Prelude.{ℕ, Bool}
use Rattle.progress.specs.Tally.{Tally}
use Rattle.progress.specs.declared.screen.Screen.{Screen}

-- where it writes to
abbrev pub writer_of : {W : Type 0} → Screen W → W
writer_of screen = screen.writer

-- how far the drive is that it shows
abbrev pub tally_of : {W : Type 0} → Screen W → Tally
tally_of screen = screen.progress

-- when it showed a line last
abbrev pub last_of : {W : Type 0} → Screen W → ℕ
last_of screen = screen.pace

-- no turn is shown before the end
abbrev pub is_quiet : {W : Type 0} → Screen W → Bool
is_quiet screen = screen.is_quiet
