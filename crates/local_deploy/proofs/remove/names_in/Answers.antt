use Rattle.std.proofs.Common.{sym, subst, ap, ◌∙◌, arith, inl, inr, refl, List, ◌≡◌, ◌≤◌, length, map, ◌++◌}
use Rattle.std.proofs.lemmas.List.{length-map}
use Rattle.std.specs.List.{AllZip}
use Rattle.serde_json.specs.Data.{Data}
use Rattle.tree_core.specs.View.{view}
use Rattle.nuc_base.proofs.Tables.{answers_after}
use Rattle.nuc_base.specs.Tables.{AnswerBy, each}
use Rattle.tree_core.specs.Parts.{values, IsList, check}
use Rattle.local_deploy.specs.Lines.{removed_lines}
use Rattle.local_deploy.specs.Named.{IsNamed}
use Rattle.local_deploy.specs.declared.fault.LocalFault.TheVariants.{NoMemory, WrongKind, TooMany}
use Rattle.local_deploy.specs.declared.fault.Key.TheVariants.{Remove}
use Rattle.tree_core.proofs.Seen.{is_list, values_are}
use Rattle.local_deploy.proofs.remove.names_in.Goals as goal

pub returns-then-len-gt-MOST_NAMES : goal.returns-then-len-gt-MOST_NAMES
returns-then-len-gt-MOST_NAMES c =
    let all = values_are _ c.in-Items.items c.in-Items.is in
    let long : length (values (view c.args.remove.now)) ≡ length c.in-Items.items.items = ap length all ∙ length-map c.in-Items.items.items view in
    inr (inr (is_list _ c.in-Items.items c.in-Items.is, inl (λ short. omega arith, refl)))

pub returns : goal.returns
returns c =
    let d = view c.args.remove.now in
    let lines = removed_lines in
    let all : values d ≡ map view c.in-Items.items.items = values_are _ c.in-Items.items c.in-Items.is in
    let long : length (values d) ≡ length c.in-Items.items.items = ap length all ∙ length-map c.in-Items.items.items view in
    let short : length (values d) ≤ 128 = omega arith in
    let whole : AnswerBy NoMemory (each lines (values d)) (AllZip IsNamed (values d)) c.names_among.result =
    subst (λ (ds : List Data). AnswerBy NoMemory (each lines ds) (AllZip IsNamed ds) c.names_among.result) (sym all) c.names_among.ensures in
    answers_after NoMemory (check (IsList d) (WrongKind Remove) ++ check (length (values d) ≤ 128) (TooMany Remove))
    (each lines (values d))
    (AllZip IsNamed (values d))
    c.names_among.result
    (is_list _ c.in-Items.items c.in-Items.is, (short, tt)) whole
