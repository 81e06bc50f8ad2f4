use Rattle.std.proofs.Common.{◌≡◌, true, inl, inr, refl}
use Rattle.tree_core.specs.View.{view}
use Rattle.tree_core.specs.Parts.{check}
use Rattle.nuc_base.specs.Tables.{on}
use Rattle.nuc_base.proofs.Tables.{handed_on}
use Rattle.recipe_reader.specs.Spelled.{spelled}
use Rattle.recipe_reader.specs.Keys.{keyed}
use Rattle.recipe_reader.specs.Environment.{environment_lines}
use Rattle.recipe_reader.specs.Lifecycles.{keys_lines, first_steps, last_steps, lifecycle_lines, HasBoth, AreSteps}
use Rattle.recipe_reader.specs.Made.{made_step}
use Rattle.recipe_reader.specs.declared.lifecycle.Steps.{Steps}
use Rattle.recipe_reader.specs.declared.fault.RecipeFault.TheVariants.{NoMemory, RunAndStartup}
use Rattle.recipe_reader.specs.declared.fault.Key.TheVariants.{Setenv}
use Rattle.std.specs.Prelude.{Some}
use Rattle.recipe_reader.proofs.Chains.{all_5, fault_2_of_5, fault_3_of_5, fault_4_of_5, fault_5_of_5}
use Rattle.recipe_reader.proofs.Making.{steps_are}
use Rattle.recipe_reader.proofs.lifecycle.steps_in.Goals as goal

pub returns-in_err-outer : goal.returns-in_err-outer
returns-in_err-outer c =
    let v = view c.args.lifecycle.now in
    let f = c.in_err-outer.field-0.0 in
    handed_on NoMemory (lifecycle_lines v) (λ (steps : Steps). AreSteps (Some v) (made_step steps)) _ f c.from_residual-in_err-outer.ensures.1
    (fault_2_of_5 NoMemory (keys_lines v) (on (keyed (spelled Setenv) v) environment_lines) (first_steps v) (last_steps v)
    (check (¬ HasBoth v) RunAndStartup) f c.in_ok-check_keys.ensures.0 c.in_err-outer.ensures)

pub returns-in_err-first : goal.returns-in_err-first
returns-in_err-first c =
    let v = view c.args.lifecycle.now in
    let f = c.in_err-first.field-0.0 in
    handed_on NoMemory (lifecycle_lines v) (λ (steps : Steps). AreSteps (Some v) (made_step steps)) _ f c.from_residual-in_err-first.ensures.1
    (fault_3_of_5 NoMemory (keys_lines v) (on (keyed (spelled Setenv) v) environment_lines) (first_steps v) (last_steps v)
    (check (¬ HasBoth v) RunAndStartup) f c.in_ok-check_keys.ensures.0 c.in_ok-outer.ensures.0 c.in_err-first.ensures)

pub returns-in_err-last : goal.returns-in_err-last
returns-in_err-last c =
    let v = view c.args.lifecycle.now in
    let f = c.in_err-last.field-0.0 in
    handed_on NoMemory (lifecycle_lines v) (λ (steps : Steps). AreSteps (Some v) (made_step steps)) _ f c.from_residual-in_err-last.ensures.1
    (fault_4_of_5 NoMemory (keys_lines v) (on (keyed (spelled Setenv) v) environment_lines) (first_steps v) (last_steps v)
    (check (¬ HasBoth v) RunAndStartup) f c.in_ok-check_keys.ensures.0 c.in_ok-outer.ensures.0 c.in_ok-first.ensures.0 c.in_err-last.ensures)

pub returns-then-has_both : goal.returns-then-has_both
returns-then-has_both c =
    let v = view c.args.lifecycle.now in
    fault_5_of_5 NoMemory (keys_lines v) (on (keyed (spelled Setenv) v) environment_lines) (first_steps v) (last_steps v) (check (¬ HasBoth v) RunAndStartup)
    RunAndStartup c.in_ok-check_keys.ensures.0 c.in_ok-outer.ensures.0 c.in_ok-first.ensures.0 c.in_ok-last.ensures.0
    (inr (inl ((λ (other : ¬ HasBoth v). other (c.has_both.ensures.0 c.if-has_both.true)), refl)))

pub returns : goal.returns
returns c =
    let v = view c.args.lifecycle.now in
    let other : ¬ HasBoth v = λ h. let fired : c.has_both.result ≡ true = c.has_both.ensures.1 h in cc in (
      all_5 (keys_lines v) (on (keyed (spelled Setenv) v) environment_lines) (first_steps v) (last_steps v) (check (¬ HasBoth v) RunAndStartup)
          c.in_ok-check_keys.ensures.0 c.in_ok-outer.ensures.0 c.in_ok-first.ensures.0 c.in_ok-last.ensures.0 (other, tt),
      steps_are _ _ _ v _ _ c.as_slice.ensures c.as_slice-2.ensures c.in_ok-outer.ensures.1.0 c.in_ok-first.ensures.1 c.in_ok-last.ensures.1,
    )
