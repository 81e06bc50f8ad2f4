-- The line of a bootstrap's end, from what a state tells of its device.
use Rattle.std.specs.Prelude.{ℕ, true, false, List, [], Option, Some, None, option_map}
use Rattle.std.proofs.Common.{◌≡◌, ◌∙◌, refl, sym, ap}
use Rattle.nuc_base.specs.declared.kinds.Exit.{Exit}
use Rattle.nuc_base.specs.declared.kinds.Step.TheVariants as steps
use Rattle.records.specs.Stored.{BootEnded}
use Rattle.device.specs.Devices.{Device, device_view, pending_view}
use Rattle.device.specs.Lawful.{goes_on}
use Rattle.device.specs.declared.device.Device as code
use Rattle.device.specs.declared.staged.Pending as code_pending
use Rattle.deploy_state.specs.Fields.{next_name}
use Rattle.session_boots.specs.Lines.{failed_line, id_of, line_of}

pub good_line : (d : Device) (name : List ℕ) (exit : Exit) → goes_on exit ≡ true → line_of d (BootEnded name exit) ≡ []
good_line d name exit good = rw good refl

pub bad_line : (d : Device) (name : List ℕ) (exit : Exit) → goes_on exit ≡ false → line_of d (BootEnded name exit) ≡ failed_line
    (id_of d) name steps.Bootstrap exit
bad_line d name exit bad = rw bad refl

pub id_told : (x : code.Device) (d : Device) (q : code_pending.Pending) → device_view x ≡ d → x.pending ≡ Some q → id_of d ≡ q.plan.id
id_told x d q view is = ap id_of (sym view) ∙ ap (λ (o : Option code_pending.Pending). id_of (record (device_view x) { pending = option_map pending_view o }))
    is

pub not_pending : (x : code.Device) (d : Device) (name : List ℕ) → device_view x ≡ d → x.pending ≡ None → next_name d ≡ Some name → ⊥
not_pending x d name view is next =
    let none : next_name d ≡ None = ap next_name (sym view) ∙ ap
    (λ (o : Option code_pending.Pending). next_name (record (device_view x) { pending = option_map pending_view o })) is in
    cc (sym none ∙ next)
