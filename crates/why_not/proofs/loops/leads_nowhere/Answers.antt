use Rattle.recipe_reader.specs.Members.{members}
use Rattle.why_not.specs.Certificates.{DependsOn}
use Rattle.why_not.proofs.Each.{each_more, each_all}
use Rattle.why_not.proofs.loops.leads_nowhere.Goals as goal

pub loop-other-preserved : goal.loop-other-preserved
loop-other-preserved c =
    each_more (λ x. DependsOn (members c.args.candidates.now) c.args.place x → ⊥) c.args.others.now c.loop-other.other-index 0 c.loop-other-test.true
    c.loop-other.invariant (c.depends_on.ensures.no c.if-depends_on.false)

pub returns : goal.returns
returns c = λ _.
    each_all (λ x. DependsOn (members c.args.candidates.now) c.args.place x → ⊥) c.args.others.now c.loop-other.other-index c.loop-other-test.false
    c.loop-other.invariant
