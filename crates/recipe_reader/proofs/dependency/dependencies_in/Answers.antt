use Rattle.std.proofs.Common.{sym, subst, ap, ◌∙◌, arith, inl, inr, refl, List, ℕ, ◌≡◌, ◌≤◌, length, ◌++◌}
use Rattle.std.proofs.lemmas.List.{length-map}
use Rattle.std.specs.List.{AllZip}
use Rattle.serde_json.specs.Data.{Data}
use Rattle.tree_core.specs.View.{view, field_view}
use Rattle.tree_core.specs.Parts.{members, IsObject, check}
use Rattle.tree_core.proofs.Seen.{is_object, members_are}
use Rattle.nuc_base.proofs.Tables.{answers_after}
use Rattle.nuc_base.specs.Tables.{AnswerBy, each}
use Rattle.recipe_reader.specs.Dependencies.{dependency_lines, IsDependency}
use Rattle.recipe_reader.specs.declared.fault.RecipeFault.TheVariants.{NoMemory, WrongKind, TooMany}
use Rattle.recipe_reader.specs.declared.fault.Key.TheVariants.{ComponentDependencies}
use Rattle.recipe_reader.proofs.dependency.dependencies_in.Goals as goal

pub returns-then-len-gt-MOST_DEPENDENCIES : goal.returns-then-len-gt-MOST_DEPENDENCIES
returns-then-len-gt-MOST_DEPENDENCIES c =
    let all = members_are _ c.in-Fields.fields c.in-Fields.is in
    let long : length (members (view c.args.value.now)) ≡ length c.in-Fields.fields.items = ap length all ∙ length-map c.in-Fields.fields.items field_view in
    inr (inr (is_object _ c.in-Fields.fields c.in-Fields.is, inl (λ short. omega arith, refl)))

pub returns : goal.returns
returns c =
    let v = view c.args.value.now in
    let all = members_are _ c.in-Fields.fields c.in-Fields.is in
    let long : length (members v) ≡ length c.in-Fields.fields.items = ap length all ∙ length-map c.in-Fields.fields.items field_view in
    let short : length (members v) ≤ 64 = omega arith in
    let whole : AnswerBy NoMemory (each dependency_lines (members v)) (AllZip IsDependency (members v)) c.dependencies_among.result =
    subst (λ (ms : List (List ℕ × Data)). AnswerBy NoMemory (each dependency_lines ms) (AllZip IsDependency ms) c.dependencies_among.result)
    (sym all) c.dependencies_among.ensures in
    answers_after NoMemory (check (IsObject v) (WrongKind ComponentDependencies) ++ check (length (members v) ≤ 64) (TooMany ComponentDependencies))
    (each dependency_lines (members v))
    (AllZip IsDependency (members v))
    c.dependencies_among.result
    (is_object _ c.in-Fields.fields c.in-Fields.is, (short, tt)) whole
