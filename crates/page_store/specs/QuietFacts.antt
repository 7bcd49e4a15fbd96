-- What the layers above use of quiet calls.
use Rattle.std.specs.Prelude.{◌≡◌}
use Rattle.page_store.specs.DeviceFile.{DeviceFile}
use Rattle.page_store.specs.Moments.{Throughout, Quiet}
use Rattle.page_store.specs.Gate.{IsOpen, AllOpen}

-- doing nothing is quiet
abbrev pub NothingIsQuiet : Type 0
NothingIsQuiet = (f g : DeviceFile) → g.log ≡ f.log → Quiet f g

-- two quiet steps in a row are quiet
abbrev pub StepsAreQuiet : Type 0
StepsAreQuiet = (f g h : DeviceFile) → Quiet f g → Quiet g h → Quiet f h

-- once every image has an open gate, quiet steps keep it so at each moment
abbrev pub OpenStaysOpen : Type 0
OpenStaysOpen = (f g : DeviceFile) → AllOpen f → Quiet f g → Throughout IsOpen f g

-- and so they do at their end
abbrev pub OpenIsKept : Type 0
OpenIsKept = (f g : DeviceFile) → AllOpen f → Quiet f g → AllOpen g
