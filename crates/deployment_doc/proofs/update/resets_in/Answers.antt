use Rattle.std.proofs.Common.{sym, subst, ap, ◌∙◌, arith, inl, inr, refl, List, ◌≡◌, ◌≤◌, length, map, ◌++◌}
use Rattle.std.proofs.lemmas.List.{length-map}
use Rattle.std.specs.List.{AllZip}
use Rattle.serde_json.specs.Data.{Data}
use Rattle.tree_core.specs.View.{view}
use Rattle.nuc_base.proofs.Tables.{answers_after}
use Rattle.nuc_base.specs.Tables.{AnswerBy, each}
use Rattle.tree_core.specs.Parts.{values, IsList, check}
use Rattle.deployment_doc.specs.Lines.{pointer_lines}
use Rattle.deployment_doc.specs.Named.{IsReset}
use Rattle.deployment_doc.specs.declared.fault.DocFault.TheVariants.{NoMemory, WrongKind, TooMany}
use Rattle.deployment_doc.specs.declared.fault.Key.TheVariants.{Reset}
use Rattle.tree_core.proofs.Seen.{is_list, values_are}
use Rattle.deployment_doc.proofs.update.resets_in.Goals as goal

pub returns-then-len-gt-MOST_RESETS : goal.returns-then-len-gt-MOST_RESETS
returns-then-len-gt-MOST_RESETS c =
    let all = values_are _ c.in-Items.items c.in-Items.is in
    let long : length (values (view c.args.resets.now)) ≡ length c.in-Items.items.items = ap length all ∙ length-map c.in-Items.items.items view in
    inr (inr (is_list _ c.in-Items.items c.in-Items.is, inl (λ short. omega arith, refl)))

pub returns : goal.returns
returns c =
    let d = view c.args.resets.now in
    let lines = pointer_lines c.args.name.now in
    let all : values d ≡ map view c.in-Items.items.items = values_are _ c.in-Items.items c.in-Items.is in
    let long : length (values d) ≡ length c.in-Items.items.items = ap length all ∙ length-map c.in-Items.items.items view in
    let short : length (values d) ≤ 256 = omega arith in
    let whole : AnswerBy NoMemory (each lines (values d)) (AllZip IsReset (values d)) c.resets_among.result =
    subst (λ (ds : List Data). AnswerBy NoMemory (each lines ds) (AllZip IsReset ds) c.resets_among.result) (sym all) c.resets_among.ensures in
    answers_after NoMemory (check (IsList d) (WrongKind Reset) ++ check (length (values d) ≤ 256) (TooMany Reset))
    (each lines (values d))
    (AllZip IsReset (values d))
    c.resets_among.result
    (is_list _ c.in-Items.items c.in-Items.is, (short, tt)) whole
