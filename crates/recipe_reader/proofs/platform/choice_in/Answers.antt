use Rattle.std.proofs.Common.{sym, subst, ap, ◌∙◌, arith, inl, inr, refl, List, ◌≡◌, ◌≤◌, length, map, ◌++◌}
use Rattle.std.proofs.lemmas.List.{length-map}
use Rattle.serde_json.specs.Data.{Data}
use Rattle.tree_core.specs.View.{view}
use Rattle.tree_core.specs.Parts.{values, check, IsList}
use Rattle.tree_core.proofs.Seen.{is_list, values_are}
use Rattle.nuc_base.specs.Tables.{AnswerBy}
use Rattle.nuc_base.proofs.Tables.{answers_after}
use Rattle.recipe_reader.specs.Found.{IsSeenAs}
use Rattle.recipe_reader.specs.Platforms.{walk_lines, chosen, HasChoice}
use Rattle.recipe_reader.specs.declared.fault.RecipeFault.TheVariants.{NoMemory, WrongKind, TooMany, NoManifest}
use Rattle.recipe_reader.specs.declared.fault.Key.TheVariants.{Manifests}
use Rattle.recipe_reader.proofs.platform.choice_in.Goals as goal

pub returns-then-len-gt-MOST_MANIFESTS : goal.returns-then-len-gt-MOST_MANIFESTS
returns-then-len-gt-MOST_MANIFESTS c =
    let all = values_are _ c.in-Items.items c.in-Items.is in
    let long : length (values (view c.args.value.now)) ≡ length c.in-Items.items.items = ap length all ∙ length-map c.in-Items.items.items view in
    inr (inr (is_list _ c.in-Items.items c.in-Items.is, inl (λ short. omega arith, refl)))

pub returns : goal.returns
returns c =
    let p = c.args.platform.now in
    let v = view c.args.value.now in
    let all : values v ≡ map view c.in-Items.items.items = values_are _ c.in-Items.items c.in-Items.is in
    let long : length (values v) ≡ length c.in-Items.items.items = ap length all ∙ length-map c.in-Items.items.items view in
    let short : length (values v) ≤ 64 = omega arith in
    let whole : AnswerBy NoMemory (walk_lines p (values v) ++ check (HasChoice p (values v)) NoManifest) (IsSeenAs (λ t. view t.now) (chosen p (values v)))
    c.choice_among.result =
    subst (λ (ms : List Data). AnswerBy NoMemory (walk_lines p ms ++ check (HasChoice p ms) NoManifest) (IsSeenAs (λ t. view t.now) (chosen p ms))
    c.choice_among.result) (sym all) c.choice_among.ensures in
    answers_after NoMemory (check (IsList v) (WrongKind Manifests) ++ check (length (values v) ≤ 64) (TooMany Manifests))
    (walk_lines p (values v) ++ check (HasChoice p (values v)) NoManifest)
    (IsSeenAs (λ t. view t.now) (chosen p (values v)))
    c.choice_among.result
    (is_list _ c.in-Items.items c.in-Items.is, (short, tt)) whole
