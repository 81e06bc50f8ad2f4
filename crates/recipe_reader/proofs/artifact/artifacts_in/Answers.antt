use Rattle.std.proofs.Common.{sym, subst, ap, ◌∙◌, arith, inl, inr, refl, List, [], ◌≡◌, ◌≤◌, length, map, ◌++◌}
use Rattle.std.proofs.lemmas.List.{length-map}
use Rattle.std.specs.List.{AllZip}
use Rattle.serde_json.specs.Data.{Data}
use Rattle.tree_core.specs.View.{view}
use Rattle.tree_core.specs.Parts.{values, check, IsList}
use Rattle.tree_core.proofs.Seen.{is_list, values_are}
use Rattle.nuc_base.specs.Tables.{AnswerBy}
use Rattle.nuc_base.proofs.Tables.{answers_after}
use Rattle.recipe_reader.specs.Artifacts.{listed_lines, IsArtifact}
use Rattle.recipe_reader.specs.declared.fault.RecipeFault.TheVariants.{NoMemory, WrongKind, TooMany}
use Rattle.recipe_reader.specs.declared.fault.Key.TheVariants.{Artifacts}
use Rattle.recipe_reader.proofs.artifact.artifacts_in.Goals as goal

pub returns-then-len-gt-MOST_ARTIFACTS : goal.returns-then-len-gt-MOST_ARTIFACTS
returns-then-len-gt-MOST_ARTIFACTS c =
    let all = values_are _ c.in-Items.items c.in-Items.is in
    let long : length (values (view c.args.value.now)) ≡ length c.in-Items.items.items = ap length all ∙ length-map c.in-Items.items.items view in
    inr (inr (is_list _ c.in-Items.items c.in-Items.is, inl (λ short. omega arith, refl)))

pub returns : goal.returns
returns c =
    let v = view c.args.value.now in
    let all : values v ≡ map view c.in-Items.items.items = values_are _ c.in-Items.items c.in-Items.is in
    let long : length (values v) ≡ length c.in-Items.items.items = ap length all ∙ length-map c.in-Items.items.items view in
    let short : length (values v) ≤ 64 = omega arith in
    let whole : AnswerBy NoMemory (listed_lines [] (values v)) (AllZip IsArtifact (values v)) c.artifacts_among.result =
    subst (λ (ms : List Data). AnswerBy NoMemory (listed_lines [] ms) (AllZip IsArtifact ms) c.artifacts_among.result) (sym all) c.artifacts_among.ensures in
    answers_after NoMemory (check (IsList v) (WrongKind Artifacts) ++ check (length (values v) ≤ 64) (TooMany Artifacts))
    (listed_lines [] (values v))
    (AllZip IsArtifact (values v))
    c.artifacts_among.result
    (is_list _ c.in-Items.items c.in-Items.is, (short, tt)) whole
