use Rattle.std.proofs.Common.{ℕ, List, ◌∷◌, ◌++◌}
use Rattle.std.proofs.lemmas.Bool.{eq-eqb, ne_eqb}
use Rattle.records.specs.Stored.{plan_view}
use Rattle.records.specs.Layout.{label, revision, wanted, wanted_of}
use Rattle.records.proofs.Pieces.{after, as_text}
use Rattle.records.proofs.Layouts.{plain_plan_spelled, revised_plan_spelled}
use Rattle.records.proofs.records.put_plan.Goals as goal

pub returns-then-plan-eq0-clause-spelled : goal.returns-then-plan-eq0-clause-spelled
returns-then-plan-eq0-clause-spelled c =
    let p = plan_view c.args.plan.now in
    let before : List ℕ = c.args.out.now.items in
    let first : List ℕ = c.put_tagged.new.out.items in
    let second : List ℕ = c.put.new.out.items in
    let all : List ℕ = c.put_wanted.new.out.items in
    as_text c.put_wanted.result all before _ _ (plain_plan_spelled p (eq-eqb _ 0 c.if-plan-eq0.true))
    (after c.put_wanted.result all first before (18 ∷ label.spell p.id) (label.spell p.group ++ wanted.spell (wanted_of p)) c.in_ok-put_tagged.ensures.spelled
    (after c.put_wanted.result all second first (label.spell p.group) (wanted.spell (wanted_of p)) c.in_ok-put.ensures.spelled c.put_wanted.ensures.spelled))

pub returns-clause-spelled : goal.returns-clause-spelled
returns-clause-spelled c =
    let p = plan_view c.args.plan.now in
    let before : List ℕ = c.args.out.now.items in
    let first : List ℕ = c.put_tagged-2.new.out.items in
    let second : List ℕ = c.put-2.new.out.items in
    let third : List ℕ = c.put-3.new.out.items in
    let all : List ℕ = c.put_wanted-2.new.out.items in
    as_text c.put_wanted-2.result all before _ _ (revised_plan_spelled p (ne_eqb _ 0 c.if-plan-eq0.false))
    (after c.put_wanted-2.result all first before (29 ∷ label.spell p.id) (label.spell p.group
    ++ (revision.spell p.revision ++ wanted.spell (wanted_of p))) c.in_ok-put_tagged-2.ensures.spelled
    (after c.put_wanted-2.result all second first (label.spell p.group) (revision.spell p.revision ++ wanted.spell (wanted_of p)) c.in_ok-put-2.ensures.spelled
    (after c.put_wanted-2.result all third second (revision.spell p.revision) (wanted.spell (wanted_of p)) c.in_ok-put-3.ensures.spelled
    c.put_wanted-2.ensures.spelled)))
