-- What the proofs of this crate speak of, of its own definitions and of those below.
pub use Rattle.std.proofs.lemmas.Bool.{cases_Bool, eqb-false, eqb-true}
pub use Rattle.std.proofs.lemmas.Grind.{common_steps}
pub use Rattle.std.proofs.lemmas.Slice.Eq.{bytes_eq-Decides}
pub use Rattle.std.specs.NonZero.{non_zero_usize_get}
pub use Rattle.io_state.specs.declared.fault.Fault.{Fault}
pub use Rattle.io_state.specs.declared.fault.Fault.TheVariants.{Broken as BrokenUnit, Damage, Device, Full}
pub use Rattle.io_state.specs.declared.fault.Fault.TheVariants.{Memory}
pub use Rattle.record_layout.specs.Schema.{Schema}
pub use Rattle.indexed_file.proofs.TestLemmas.{either}
pub use Rattle.indexed_file.specs.Answers.{looked_at, seen_of}
pub use Rattle.indexed_file.specs.Calls.{Keeps, MayFail, OnlyReads as ReadsWorld, SamePages}
pub use Rattle.indexed_file.specs.File.{File, empty_file}
pub use Rattle.indexed_file.specs.FileChange.{FileChange}
pub use Rattle.indexed_file.specs.Images.{ImagesGo, IsAmong, Stays, Trace, unfinished, untouched}
pub use Rattle.indexed_file.specs.Room.{Room, most_to_read, most_to_seek}
pub use Rattle.indexed_file.specs.UnitCalls.{OpensUnit}
pub use Rattle.indexed_file.specs.World.{Absent, Broken, Closed, FileUnit, Holding, Named, OnlyAt}
pub use Rattle.indexed_file.specs.World.{Opened as HasOpened, Shut, Unsound, World, file_at, holding_at}
pub use Rattle.indexed_file.specs.World.{is_broken, is_looked, is_open, name_at, named_at, opened_from}
pub use Rattle.indexed_file.specs.World.{schema_at, schema_in, with_unit}
pub use Rattle.indexed_file.specs.declared.answer.Seen.{Seen}
pub use Rattle.page_store.proofs.MomentLemmas.{throughout_none, throughout_weaker}
pub use Rattle.page_store.proofs.OpenLemmas.{refused_open}
pub use Rattle.page_store.proofs.ShelfLemmas.{same_place}
pub use Rattle.page_store.specs.DeviceFile.{DeviceFile, bytes_or_none, content, page_of_bytes}
pub use Rattle.page_store.specs.Gate.{AllOpen, SameOrRefused, WasOrRefused}
pub use Rattle.page_store.specs.Images.{Leaves}
pub use Rattle.page_store.specs.Moments.{Throughout}
pub use Rattle.page_store.specs.ShelfState.{KeepsOthers, ShelfState, unit_file, unit_name}
pub use Rattle.page_store.specs.declared.shelf.Shelf.{Ghosts}
pub use Rattle.page_alloc.specs.Joining.{FaultsRose, pages_counted, pages_free}
pub use Rattle.page_alloc.specs.PagedFile.{IsKeptOrRefused, counts_of, is_begun, times_asked, unit_of_pages}
pub use Rattle.open_file.specs.declared.first_page.Header.{Header}
pub use Rattle.open_file.proofs.ReadOffLemmas.{reads_as}
pub use Rattle.open_file.specs.Faults.{IsCausedIn}
pub use Rattle.open_file.specs.ReadOff.{file_off}
pub use Rattle.open_file.specs.Stands.{Stands}
pub use Rattle.open_file.specs.declared.open_file.OpenFile.{OpenFile}
pub use Rattle.shelf_library.specs.FileAcceptedLemmas.{reads_back}
pub use Rattle.shelf_library.specs.Calls.{OnlyReadsFile}
pub use Rattle.shelf_library.specs.ClosedFile.{StandsIn, AreClosed}
pub use Rattle.shelf_library.specs.Named.{look_of, named_by, named_of}
pub use Rattle.shelf_library.specs.FileOpening.{MayFailToMake}
pub use Rattle.shelf_library.specs.Shelves.{ClosedFileOrRefused, Closes}
pub use Rattle.shelf_library.specs.Standing.{HasLimits, IsReady, StandsFor, file_read_off, is_broken_file}
pub use Rattle.shelf_library.specs.Standing.{live_of, pages_behind, parts_of, room_in, schema_behind}
pub use Rattle.shelf_library.specs.declared.look.HeaderLook.{HeaderLook}
pub use Rattle.shelf_library.specs.declared.look.HeaderLook.TheVariants.{Accepted, NoFile, Refused}
pub use Rattle.shelf_library.specs.declared.shelf_file.ShelfFile.{ShelfFile}
pub use Rattle.shelf_library.specs.Attaching.{Attaches}
pub use Rattle.shelf_library.specs.Changing.{ChangesFile, MovesAt}
pub use Rattle.shelf_library.specs.Closing.{ClosesUnitAt}
pub use Rattle.shelf_library.specs.Crashes.{IsSoundImage, MayReadAs}
pub use Rattle.shelf_library.specs.Library.{shown_by}
pub use Rattle.shelf_library.specs.Looking.{LooksAt}
pub use Rattle.shelf_library.specs.MomentLaws.{EachRead, each_read, found_now}
pub use Rattle.shelf_library.specs.OneUnit.{AreUnits, ChangesAt, FitsItsFile, IsTrulyHeld}
pub use Rattle.shelf_library.specs.Opening.{MakesAt, OpensAt}
pub use Rattle.shelf_library.specs.Reading.{GoesOpen, ReadsAt}
pub use Rattle.shelf_library.specs.State.{AreLimited, IsLooked, IsReadyAt, LibraryState, held_at}
pub use Rattle.shelf_library.specs.Told.{answer_open, held_after, held_open}
pub use Rattle.shelf_library.specs.Truth.{IsShownTruly, IsTrulyClosed, IsTrulyOpen}
pub use Rattle.shelf_library.specs.Units.{counts_of_held, holding_of, pages_asked_of, room_of_held, units_of}
pub use Rattle.shelf_library.specs.Units.{world_of}
pub use Rattle.shelf_library.specs.declared.held.Held.{Held}
pub use Rattle.shelf_library.specs.declared.held.Held.TheVariants.{Looked, Nothing, Opened}
pub use Rattle.shelf_library.specs.declared.library.ShelfLibrary.{ShelfLibrary}
