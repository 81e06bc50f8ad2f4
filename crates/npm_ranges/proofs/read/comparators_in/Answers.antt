use Rattle.npm_ranges.proofs.Reading.{comparators_step}
use Rattle.npm_ranges.proofs.read.comparators_in.Goals as goal

pub words-preserved : goal.words-preserved
words-preserved c =
    comparators_step c.args.text.now c.words.rest.now c.in-Some.word.now c.in-Some.after.now c.in_ok-comparator.behind.now c.words.comparators.items
    c.push.new.self.items c.in_ok-comparator.comparator
    c.words.invariant c.in-Some.ensures c.in_ok-comparator.ensures c.in_ok-push.ensures.items
