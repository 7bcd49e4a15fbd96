use Rattle.std.proofs.Common.{subst}
use Rattle.streams.specs.Source.{source_of}
use Rattle.serve.specs.Files.{Files}
use Rattle.serve.specs.Serving.{Serves, streams}
use Rattle.serve.proofs.serving.serve.Goals as goal

pub returns-clause-served : goal.returns-clause-served
returns-clause-served g c unless =
    let closed = c.close_all-unclosed.ensures.closed in
    record {
      session = record {
        last = c.answer_all-requests.new.session;
        served = subst (λ (f : Files _). Serves g.L.Library.shown g.L.GrowingLibrary.keeps_open
            (streams (source_of g.R.Read.remaining c.args.input.now) (source_of g.R.Read.remaining c.answer_all-requests.new.input) (g.W.Write.contents c.args.out.now) (g.W.Write.contents c.answer_all-requests.new.out))
            f c.answer_all-requests.new.session c.answer_all-requests.result) c.new-session.ensures c.answer_all-requests.ensures;
        closes = closed.statuses;
        end = c.close_all-unclosed.new.session;
        closed = closed.closed;
      };
      library = c.into_library.ensures;
      unclosed = closed.failed_are;
    }
