use Rattle.std.proofs.Common.{sym, subst, ap, ◌∙◌, arith, inl, inr, refl, List, ℕ, ◌≡◌, ◌≤◌, length, ◌++◌}
use Rattle.std.proofs.lemmas.List.{length-map}
use Rattle.std.specs.List.{AllZip}
use Rattle.serde_json.specs.Data.{Data}
use Rattle.tree_core.specs.View.{view, field_view}
use Rattle.nuc_base.proofs.Tables.{answers_after}
use Rattle.nuc_base.specs.Tables.{AnswerBy, each}
use Rattle.tree_core.specs.Parts.{members, IsObject, check}
use Rattle.deployment_doc.specs.Lines.{component_lines}
use Rattle.deployment_doc.specs.Named.{IsRoot}
use Rattle.deployment_doc.specs.declared.fault.DocFault.TheVariants.{NoMemory, WrongKind, TooMany}
use Rattle.deployment_doc.specs.declared.fault.Key.TheVariants.{Components}
use Rattle.tree_core.proofs.Seen.{is_object, members_are, seen}
use Rattle.tree_core.specs.Regular.{IsRegular}
use Rattle.deployment_doc.proofs.roots.roots_in.Goals as goal

pub returns-then-len-gt-MOST_COMPONENTS : goal.returns-then-len-gt-MOST_COMPONENTS
returns-then-len-gt-MOST_COMPONENTS c =
    let all = members_are _ c.in-Fields.fields c.in-Fields.is in
    let long : length (members (view c.args.components.now)) ≡ length c.in-Fields.fields.items = ap length all
    ∙ length-map c.in-Fields.fields.items field_view in
    inr (inr (is_object _ c.in-Fields.fields c.in-Fields.is, inl (λ short. omega arith, refl)))

pub returns : goal.returns
returns c =
    let all = members_are _ c.in-Fields.fields c.in-Fields.is in
    let long : length (members (view c.args.components.now)) ≡ length c.in-Fields.fields.items = ap length all
    ∙ length-map c.in-Fields.fields.items field_view in
    let short : length (members (view c.args.components.now)) ≤ 128 = omega arith in
    let whole : AnswerBy NoMemory (each component_lines (members (view c.args.components.now))) (AllZip IsRoot (members (view c.args.components.now)))
    c.roots_among.result =
    subst (λ (ms : List (List ℕ × Data)). AnswerBy NoMemory (each component_lines ms) (AllZip IsRoot ms) c.roots_among.result)
    (sym all) c.roots_among.ensures in
    answers_after NoMemory (check (IsObject (view c.args.components.now)) (WrongKind Components)
    ++ check (length (members (view c.args.components.now)) ≤ 128) (TooMany Components))
    (each component_lines (members (view c.args.components.now)))
    (AllZip IsRoot (members (view c.args.components.now)))
    c.roots_among.result
    (is_object _ c.in-Fields.fields c.in-Fields.is, (short, tt)) whole

pub roots_among-requires : goal.roots_among-requires
roots_among-requires c = subst IsRegular (ap view c.in-Fields.is ∙ seen c.in-Fields.fields) c.requires
