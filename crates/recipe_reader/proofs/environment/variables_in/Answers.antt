use Rattle.std.proofs.Common.{◌≡◌, ◌∙◌, List, ℕ, map, sym, subst, ap}
use Rattle.std.specs.List.{AllZip}
use Rattle.serde_json.specs.Data.{Data}
use Rattle.tree_core.specs.View.{view, field_view, fields_view}
use Rattle.tree_core.specs.Parts.{check, members, pairs_of, IsObject}
use Rattle.tree_core.proofs.Seen.{seen, is_object, members_are}
use Rattle.nuc_base.specs.Tables.{AnswerBy, each}
use Rattle.nuc_base.proofs.Tables.{answers_after}
use Rattle.recipe_reader.specs.Environment.{Variable, variable_lines, IsVariable, HaveRisingNames}
use Rattle.recipe_reader.specs.declared.fault.RecipeFault.TheVariants.{NoMemory, WrongKind}
use Rattle.recipe_reader.specs.declared.fault.Key.TheVariants.{Setenv}
use Rattle.recipe_reader.proofs.Chains.{answers_also}
use Rattle.recipe_reader.proofs.Joining.{variables_rise}
use Rattle.tree_core.proofs.RegularParts.{AreRegular, fields_regular}
use Rattle.recipe_reader.proofs.environment.variables_in.Goals as goal

pub returns : goal.returns
returns c =
    let v = view c.args.value.now in
    let fs = c.in-Fields.fields in
    let all : members v ≡ map field_view fs.items = members_are _ fs c.in-Fields.is in
    let pairs : members v ≡ pairs_of (fields_view fs.items) = ap members (ap view c.in-Fields.is ∙ seen fs) in
    let regular : AreRegular (fields_view fs.items) = fields_regular _ fs c.in-Fields.is c.requires in
    let whole : AnswerBy NoMemory (each variable_lines (members v)) (AllZip IsVariable (members v)) c.variables_among.result =
    subst (λ (ms : List (List ℕ × Data)). AnswerBy NoMemory (each variable_lines ms) (AllZip IsVariable ms) c.variables_among.result)
    (sym all) c.variables_among.ensures in
    let rising = λ (xs : List Variable) (h : AllZip IsVariable (members v) xs). variables_rise (fields_view fs.items) xs regular.orderly
    (subst (λ (ms : List (List ℕ × Data)). AllZip IsVariable ms xs) pairs h) in
    answers_after NoMemory (check (IsObject v) (WrongKind Setenv)) (each variable_lines (members v)) (λ (xs : List Variable). AllZip IsVariable (members v)
    xs × HaveRisingNames xs) c.variables_among.result
    (is_object _ fs c.in-Fields.is, tt)
    (answers_also NoMemory (each variable_lines (members v)) (AllZip IsVariable (members v)) (λ (xs : List Variable). AllZip IsVariable (members v) xs ×
    HaveRisingNames xs) c.variables_among.result (λ xs h. (h, rising xs h)) whole)
