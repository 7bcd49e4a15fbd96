use Rattle.std.proofs.Common.{rules, ◌≡◌, ℕ, true, List, [], Option, Some, None, string_bytes, subst}
use Rattle.page_store.specs.DeviceFile.{absent}
use Rattle.folder_shelf.specs.Replay.{Unseen}
use Rattle.std.specs.Option.{IfSome}
use Rattle.serve.specs.Files.{Files, files_at_start}
use Rattle.cobix_inside.specs.NewLibrary.{IsNewInside, unasked_within}
use Rattle.cobix_inside.specs.Sessions.{IsNewSession}
use Rattle.cobix_inside.proofs.exports.session.Goals as goal

-- what was made is a session over this library, if something was
some_new : {A S : Type 0} (IsNew : S → Type 0) (library : S) (session_of : A → Files S) (made : Option A) → IsNew library
    → IfSome made (λ it. session_of it ≡ files_at_start library) → IfSome made (λ it. IsNewSession IsNew (session_of it))
some_new IsNew library session_of (Some it) is_new is = record { library = library; is_new = is_new; files = is }
some_new IsNew library session_of None is_new is = tt

pub returns : goal.returns
returns c =
    let empty : Unseen = record { first = λ path. absent; came = λ calls. true; torn = λ calls. [] } in
    let bytes : string_bytes c.in_ok-folder-2.folder ≡ c.args.folder.now = search rules in
    some_new _ c.asked_library-library.result (λ made. made.value.session) c.boxed.result
    (subst (λ (path : List ℕ). IsNewInside (unasked_within empty path c.args.limits) c.asked_library-library.result) bytes c.asked_library-library.ensures.new)
    (subst (λ (files : Files _). IfSome c.boxed.result (λ made. made.value.session ≡ files)) c.new-2.ensures c.boxed.ensures)
