use Rattle.std.proofs.Common.{refl, sym}
use Rattle.file_checker.proofs.parts.check_listed.Goals as goal

pub returns : goal.returns
returns c = c.check_pages.ensures.checks c.args.pages.now (sym (c.check_pages.ensures.before _ refl))
