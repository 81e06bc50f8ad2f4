use Rattle.std.proofs.Common.{ℕ, List, sym, ◌∙◌, subst}
use Rattle.std.specs.Prelude.{IfOk, MatchOption}
use Rattle.std.specs.List.{Contains}
use Rattle.recipe_reader.specs.Members.{members}
use Rattle.why_not.specs.Edges.{HasNoLoop, IsLoopOf}
use Rattle.why_not.proofs.Linking.{nowhere_acyclic}
use Rattle.why_not.proofs.loops.loop_with.Goals as goal

pub returns-then-leads_nowhere : goal.returns-then-leads_nowhere
returns-then-leads_nowhere c =
    let e = c.as_slice.ensures.value ∙ c.in_ok-places.ensures in
    nowhere_acyclic (members c.args.candidates.now) c.args.taken.now c.args.place
    (λ x i. c.leads_nowhere.ensures c.if-leads_nowhere.true x (subst (λ l. Contains l x) (sym e) i)) c.requires.acyclic

pub returns : goal.returns
returns c =
    let ms = members c.args.candidates.now in
    let e = c.as_slice-2.ensures.value ∙ c.in_ok-places.ensures in
    subst (λ (all : List ℕ). IfOk c.loop_among.result (λ found. MatchOption found (HasNoLoop ms all) (λ ps. IsLoopOf ms all ps.items))) e c.loop_among.ensures
