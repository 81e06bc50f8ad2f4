-- What each answer of `config-get` amounts to.
use Rattle.std.proofs.Common.{◌≡◌, ◌≢◌, ◌∙◌, ◌⊎◌, inl, inr, ℕ, List, IsTrue, refl, sym, subst}
use Rattle.std.specs.Prelude.{Option, Some, None, IsSome, Result, Ok, Err, IfOk, option_and_then}
use Rattle.serde_json.specs.Data.{Data}
use Rattle.nuc_base.specs.declared.status.Status.{Status}
use Rattle.nuc_base.specs.declared.status.Status.TheVariants as status
use Rattle.device.specs.Devices.{Device}
use Rattle.tree_core.specs.Nodes.{node}
use Rattle.nuc_base.specs.Tables.{IsFirst}
use Rattle.config_cmd.specs.Nodes.{IsNodeText, config_in, get_lines}
use Rattle.config_cmd.specs.declared.fault.GetFault.{GetFault}
use Rattle.config_cmd.specs.declared.fault.GetFault.TheVariants as fault
use Rattle.nucleus_top.specs.Answers.{Store, Printed, IsPrinted, HasPrinted, IsOrFault}
use Rattle.nucleus_top.specs.Gets.{GetParts, GetAnswer, GetAnswerOn, IsAbsence, IsNodeLine, TellsAbsence, TellsNode, absent_line}
use Rattle.nucleus_top.specs.Opening.{HasEntry, IsImageOf}
use Rattle.nucleus_top.specs.Planning.{IsFound}
use Rattle.nucleus_top.specs.declared.answer.Answer.{Answer}
use Rattle.nucleus_top.specs.declared.answer.Answer.TheVariants.{Made, Shown, Planned, Possible, Got}
use Rattle.nucleus_top.specs.declared.answer.Answer.TheVariants.{Drawn, Absent, Whole, Unplanned, DiskFailed, NotInitialised}
use Rattle.nucleus_top.specs.declared.answer.Answer.TheVariants.{Damaged, NoMemory}
use Rattle.nucleus_top.proofs.Looked.{TellsNone, looked_parts, reads_only}
use Rattle.nucleus_top.proofs.Standing.{same_device}
use Rattle.nucleus_top.proofs.Told.{answer_or_edge}

pub gets_none : (name : List ℕ) (at : List (List ℕ)) (store : Store) → TellsNone (λ d. GetAnswerOn d name at) store
gets_none name at store = record { disk_fails = λ d on. on; no_entry = λ d on. on; harmed = λ d place on. on }

pub got_on : (d : Device) (name : List ℕ) (at : List (List ℕ)) (text : List ℕ) (a : Answer) → IsNodeText d name at text → TellsNode text a →
    GetAnswerOn d name at a
got_on d name at text (Got line) has tells = (text, has, tells)
got_on d name at text NoMemory has tells = tt
got_on d name at text a has tells = absurd tells

pub absent_on : {E : Type 0} (d : Device) (name : List ℕ) (at : List (List ℕ)) (f : GetFault) (line : Result (List ℕ) E) (a : Answer)
    → (f ≢ fault.NoMemory) → (f ≡ fault.NoMemory) ⊎ IsFirst (get_lines d name at) f → IfOk line (λ l. l ≡ absent_line name at f) → TellsAbsence line a
    → GetAnswerOn d name at a
absent_on d name at f line a told (inl memory) is tells = absurd (told memory)
absent_on d name at f (Ok text) (Absent line) told (inr first) is tells = (f, first, tells ∙ is)
absent_on d name at f (Ok text) a told (inr first) is tells = absurd tells
absent_on d name at f (Err e) NoMemory told (inr first) is tells = tt
absent_on d name at f (Err e) a told (inr first) is tells = absurd tells

-- a node is in some configuration
has_config : (at : List (List ℕ)) (c : Option Data) (e : Data) → option_and_then (node at) c ≡ Some e → IsSome c
has_config at None e is = cc
has_config at (Some config) e is = refl

-- a device that has the node does not lack it
not_both : (d : Device) (name : List ℕ) (at : List (List ℕ)) (text other : List ℕ) → IsNodeLine d name at text → IsAbsence d name at other → ⊥
not_both d name at text other has lacks = elim lacks.1 [
  | inl unrun ↦ unrun.0 (has_config at (config_in d name) has.1.0 has.1.1)
  | inr run ↦ elim run.1 [
    | inl missing ↦ missing.0 (subst (λ (o : Option Data). IsSome o) (sym has.1.1) refl)
    | inr rest ↦ rest.1
  ]
]

module _ (name : List ℕ) (at : List (List ℕ)) (store : Store) (printed : Printed) (result : Status) where
  abbrev On : Device → Answer → Type 0
  On d = GetAnswerOn d name at

  done : (a : Answer) → GetAnswer name at store a → IsPrinted printed result a → result ≡ status.Done → (d : Device) × IsFound store d × ((text : List ℕ) ×
      IsNodeLine d name at text × HasPrinted printed text)
  done (Got text) comes (inl told) is = (comes.1.0, comes.1.1, (text, comes.1.2, told.1))
  done (Made thing) comes (inl told) is = absurd comes.1.2
  done (Shown text) comes (inl told) is = absurd comes.1.2
  done (Drawn text) comes (inl told) is = absurd comes.1.2
  done (Planned text) comes (inl told) is = absurd comes.1.2
  done Possible comes (inl told) is = absurd comes.1.2
  done Whole comes (inl told) is = absurd comes.1.2
  done (Unplanned r text) comes (inl told) is = absurd comes.1.2
  done a comes (inl told) is = cc
  done a comes (inr told) is = cc

  absent : (a : Answer) → GetAnswer name at store a → IsPrinted printed result a → result ≡ status.Absent → (d : Device) × IsFound store d × ((text : List ℕ) ×
      IsAbsence d name at text × HasPrinted printed text)
  absent (Absent text) comes (inl told) is = (comes.1.0, comes.1.1, (text, comes.1.2, told.1))
  absent (Unplanned r text) comes (inl told) is = absurd comes.1.2
  absent a comes (inl told) is = cc
  absent a comes (inr told) is = cc

  module _ (is_modelled : IsTrue store.is_modelled) (some : HasEntry store.before) (d : Device) (stands : IsImageOf store.before d) where
    -- what is found is that device
    at_it : (Is : Device → Type 0) (e : Device) → IsFound store e → Is e → Is d
    at_it Is e found is = subst Is (same_device store.before e d (found is_modelled).1 stands) is

    done_comes : (a : Answer) → GetAnswer name at store a → IsPrinted printed result a → (text : List ℕ) → IsNodeLine d name at text →
        IsOrFault result status.Done
    done_comes a comes (inr told) text has = inr (inr (inl told.0))
    done_comes (Got node) comes (inl told) text has = inr (inl told.0)
    done_comes (Absent line) comes (inl told) text has =
        absurd (not_both d name at text line has (at_it (λ x. IsAbsence x name at line) comes.1.0 comes.1.1 comes.1.2))
    done_comes DiskFailed comes (inl told) text has = inl told.0
    done_comes NotInitialised comes (inl told) text has = absurd (some (comes.1 is_modelled))
    done_comes (Damaged place) comes (inl told) text has = absurd ((comes.1.2 is_modelled).none d stands)
    done_comes NoMemory comes (inl told) text has = inr (inr (inr told.0))
    done_comes a comes (inl told) text has = absurd comes.1.2

    absent_comes : (a : Answer) → GetAnswer name at store a → IsPrinted printed result a → (text : List ℕ) → IsAbsence d name at text →
        IsOrFault result status.Absent
    absent_comes a comes (inr told) text lacks = inr (inr (inl told.0))
    absent_comes (Got node) comes (inl told) text lacks =
        absurd (not_both d name at node text (at_it (λ x. IsNodeLine x name at node) comes.1.0 comes.1.1 comes.1.2) lacks)
    absent_comes (Absent line) comes (inl told) text lacks = inr (inl told.0)
    absent_comes DiskFailed comes (inl told) text lacks = inl told.0
    absent_comes NotInitialised comes (inl told) text lacks = absurd (some (comes.1 is_modelled))
    absent_comes (Damaged place) comes (inl told) text lacks = absurd ((comes.1.2 is_modelled).none d stands)
    absent_comes NoMemory comes (inl told) text lacks = inr (inr (inr told.0))
    absent_comes a comes (inl told) text lacks = absurd comes.1.2

  pub get_parts : (a : Answer) → GetAnswer name at store a → IsPrinted printed result a → GetParts name at store printed result
  get_parts a comes told = record {
    which = answer_or_edge (GetAnswer name at store) printed result a comes told;
    reads_only = reads_only On store a comes;
    done = done a comes told;
    done_comes = λ is_modelled some d stands text has. done_comes is_modelled some d stands a comes told text has;
    absent = absent a comes told;
    absent_comes = λ is_modelled some d stands text lacks. absent_comes is_modelled some d stands a comes told text lacks;
    refused = looked_parts On store (λ d text on. on) printed result a comes told;
  }
