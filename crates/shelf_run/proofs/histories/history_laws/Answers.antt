use Rattle.shelf_run.proofs.AnyNightLemmas.{any_nights}
use Rattle.shelf_run.proofs.NightsByRowsLemmas.{nights_by_rows}
use Rattle.shelf_run.proofs.PointLemmas.{nights_go_through}
use Rattle.shelf_run.proofs.HistoryLemmas.{clean_nights, from_nothing}
use Rattle.shelf_run.proofs.histories.history_laws.Goals as goal

pub returns-clause-clean : goal.returns-clause-clean
returns-clause-clean c = clean_nights c.one_deck.ensures

pub returns-clause-from_nothing : goal.returns-clause-from_nothing
returns-clause-from_nothing c = from_nothing c.one_deck.ensures

pub returns-clause-any : goal.returns-clause-any
returns-clause-any c = any_nights

pub returns-clause-rows : goal.returns-clause-rows
returns-clause-rows c = nights_by_rows

pub returns-clause-points : goal.returns-clause-points
returns-clause-points c = nights_go_through
