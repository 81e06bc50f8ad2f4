use Rattle.step_runner.specs.Entries.{Listed}
use Rattle.step_runner.specs.Waits.{waited}
use Rattle.session_acts.proofs.Shows.{lives_after, noted_after, shown_after, time_after}
use Rattle.session_acts.proofs.waits.await_end.Goals as goal

pub returns-clause-notes : goal.returns-clause-notes
returns-clause-notes g c =
    noted_after (Listed g.R.Runner.list g.R.Runner.told g.R.Runner.asked c.args.runner.now)
    (Listed g.R.Runner.list g.R.Runner.told g.R.Runner.asked c.show.new.self) (Listed g.R.Runner.list g.R.Runner.told g.R.Runner.asked c.wait.new.self)
    (waited c.args.limit c.wait.result) c.show.ensures.notes c.wait.ensures.notes

pub returns-clause-lives : goal.returns-clause-lives
returns-clause-lives g c =
    lives_after (g.R.Runner.living c.args.runner.now) (g.R.Runner.living c.show.new.self) (g.R.Runner.living c.wait.new.self) c.wait.result
    c.show.ensures.lives c.wait.ensures.lives

pub returns-clause-time : goal.returns-clause-time
returns-clause-time g c =
    time_after (g.R.Runner.clock c.args.runner.now) (g.R.Runner.clock c.show.new.self) (g.R.Runner.clock c.wait.new.self) c.args.limit c.wait.result
    c.show.ensures.time c.wait.ensures.time

pub returns-clause-shown : goal.returns-clause-shown
returns-clause-shown g c =
    shown_after (g.R.Runner.shown c.show.new.self) (g.R.Runner.shown c.wait.new.self) (g.V.View.components c.args.view.now) c.wait.ensures.shown
    c.show.ensures.shown
