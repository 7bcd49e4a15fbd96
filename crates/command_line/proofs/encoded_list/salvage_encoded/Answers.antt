use Rattle.std.proofs.Common.{[]}
use Rattle.folder_shelf.proofs.ReadingLemmas.{by_none}
use Rattle.command_words.specs.Asks.{form_text}
use Rattle.command_line.proofs.EncodedLemmas.{in_none_salvaged}
use Rattle.command_line.proofs.encoded_list.salvage_encoded.Goals as goal

pub returns-in-None : goal.returns-in-None
returns-in-None g c =
    by_none (g.S.System.state c.args.system.now)
    (in_none_salvaged (g.I.Read.remaining c.args.input.now) c.args.asked.file.now (form_text c.args.asked.form) c.args.asked.places g.E.Write.contents
    c.args.err.now c.args.err.now [] g.W.Write.contents c.args.out.now (c.encoding_of.ensures.none c.in-None.is))
