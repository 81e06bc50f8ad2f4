-- What each answer of `workload` amounts to.
use Rattle.std.proofs.Common.{◌≡◌, ◌∙◌, ◌⊎◌, inl, inr, IsTrue, refl, sym, ap, subst, ℕ, List, []}
use Rattle.std.specs.Prelude.{true, Some, Result, Ok, Err, IfOk}
use Rattle.nuc_base.specs.declared.kinds.Outcome.{Outcome}
use Rattle.nuc_base.specs.declared.names.Name.{Name}
use Rattle.nuc_base.specs.declared.status.Status.{Status}
use Rattle.nuc_base.specs.declared.status.Status.TheVariants as status
use Rattle.command_words.specs.Laws.{AsksOnce}
use Rattle.command_words.specs.Words.{IsOrder}
use Rattle.command_words.specs.declared.order.Order.{Order}
use Rattle.command_words.specs.declared.order.Order.TheVariants.{ConfigSet, Deploy, Local, Resume, Serve, Workload}
use Rattle.disk_model.specs.Disk.{Image}
use Rattle.device.specs.Devices.{Device}
use Rattle.library_core.specs.Library.{Content}
use Rattle.library_core.specs.Memory.{stored_in}
use Rattle.library_core.specs.declared.memory.Stored.{Stored}
use Rattle.workload.specs.Inputs.{documents_from, recipes_from}
use Rattle.workload.specs.Tallies.{tally_line, tally_of}
use Rattle.workload.specs.declared.tallies.Tally.{Tally}
use Rattle.nucleus_top.specs.Answers.{Store, Printed, IsPrinted, IsUnchanged, HasPrinted}
use Rattle.nucleus_top.specs.Words.{AsksNothing, AsksOrder, DrivesNone}
use Rattle.nucleus_top.specs.Workloads.{WorkloadAnswer, DeviceAfterAll, IsBegunAs, IsTally, TellsTally, WorkloadParts, drawn_content, workload_origin}
use Rattle.nucleus_top.specs.Begun.{begun_device}
use Rattle.nucleus_top.specs.Inits.{InitAnswer}
use Rattle.records.specs.declared.record.Origin.{Origin}
use Rattle.nucleus_top.specs.Opening.{IsImageOf}
use Rattle.nucleus_top.proofs.Standing.{same_device}
use Rattle.nucleus_top.proofs.Through.{Goes}
use Rattle.nucleus_top.specs.declared.answer.Answer.{Answer}
use Rattle.nucleus_top.specs.declared.answer.Answer.TheVariants.{Drawn, Made, NoMemory}

-- the line has the counts of this list
pub tallied : {E : Type 0} (seed : ℕ) (closed list : List (List ℕ × Outcome)) (tally : Tally) (result : Result (List ℕ) E) → closed ≡ list
    → tally ≡ tally_of closed → IfOk result (λ text. text ≡ tally_line seed tally) → IfOk result (λ text. text ≡ tally_line seed (tally_of list))
tallied seed closed list tally (Ok text) same is told = told ∙ ap (tally_line seed) (is ∙ ap tally_of same)
tallied seed closed list tally (Err e) same is told = tt

-- the journal stands for no other device
pub found_tally : {E : Type 0} (seed : ℕ) (image : Image) (d : Device) (result : Result (List ℕ) E) → IsImageOf image d
    → IfOk result (λ text. text ≡ tally_line seed (tally_of d.closed))
    → IfOk result (λ text. (e : Device) → IsBegunAs image e → text ≡ tally_line seed (tally_of e.closed))
found_tally seed image d (Ok text) stands told = λ e begun.
    told ∙ ap (λ (x : Device). tally_line seed (tally_of x.closed)) (same_device image d e stands begun.0)
found_tally seed image d (Err e) stands told = tt

-- the store of a workload was made
pub begun_made : (origin : Origin) (store : Store) (a : Answer) (thing : List ℕ) → a ≡ Made thing → InitAnswer origin store a → IsTrue store.is_modelled
    → origin ≡ workload_origin → IsBegunAs store.after (begun_device workload_origin)
begun_made origin store a thing is comes told same =
    let made = (subst (λ (x : Answer). InitAnswer origin store x) is comes).1 told in
    (subst (λ (o : Origin). IsImageOf store.after (begun_device o)) same made.stands, refl)

-- what the library of a workload holds
pub holds_drawn : (seed : ℕ) (content : Content) (recipes : List (List ℕ)) (artifacts : List Stored) → content ≡ record {
  recipes = Some recipes;
  artifacts = Some (stored_in artifacts);
  tells = true;
} → artifacts ≡ []
    → recipes ≡ (recipes_from seed).value → content ≡ drawn_content seed
holds_drawn seed content recipes artifacts is none drawn =
    is ∙ ap (λ (l : List Stored). record { recipes = Some recipes; artifacts = Some (stored_in l); tells = true }) none
    ∙ ap (λ (l : List (List ℕ)). record { recipes = Some l; artifacts = Some (stored_in []); tells = true }) drawn

-- the drawn documents went through from a new store on
pub ran_tally : {E : Type 0} (seed : ℕ) (content : Content) (documents : List (List ℕ)) (old new : Image) (result : Result (List ℕ) E)
    → content ≡ drawn_content seed → documents ≡ (documents_from seed).value → IsBegunAs old (begun_device workload_origin) → Goes content documents old new
    → IfOk result (λ text. (d : Device) → IsBegunAs new d → text ≡ tally_line seed (tally_of d.closed)) → IfOk result (λ text. IsTally seed text)
ran_tally seed content documents old new (Ok text) holds are begun goes tells =
    let went = goes (begun_device workload_origin) begun in (
      went.0,
      subst (λ (x : Content). DeviceAfterAll x (documents_from seed).value (begun_device workload_origin) went.0) holds
          (subst (λ (x : List (List ℕ)). DeviceAfterAll content x (begun_device workload_origin) went.0) are went.2),
      tells went.0 went.1,
    )
ran_tally seed content documents old new (Err e) holds are begun goes tells = tt

-- a disk that stays reads as before
pub tells_draws : (seed : ℕ) (store : Store) (a : Answer) → IsUnchanged store → TellsTally seed a → WorkloadAnswer seed store a
tells_draws seed store (Drawn text) same tells = (same, tells)
tells_draws seed store NoMemory same tells = same
tells_draws seed store a same tells = absurd tells

-- words that ask another command ask for no workload
pub asks_other : AsksOnce → (words : List (List ℕ)) (root : List ℕ) (order : Order) → IsOrder words root order → ((seed : ℕ) → order ≡ Workload seed → ⊥)
    → (seed : ℕ) → AsksOrder words (Workload seed) → ⊥
asks_other once words root order is other seed asks = other seed (once words root asks.root order (Workload seed) is asks.is_order).1

-- ---- a command that drives components

pub drives_some : (order : Order) → (order ≡ Deploy) ⊎ ((order ≡ Resume) ⊎ (((turns : ℕ) × (order ≡ Serve turns)) ⊎ ((order ≡ Local) ⊎
    ((name : Name) × (order ≡ ConfigSet name)))))
    → DrivesNone order → ⊥
drives_some order (inl is) none = subst DrivesNone is none
drives_some order (inr (inl is)) none = subst DrivesNone is none
drives_some order (inr (inr (inl (turns, is)))) none = subst DrivesNone is none
drives_some order (inr (inr (inr (inl is)))) none = subst DrivesNone is none
drives_some order (inr (inr (inr (inr (name, is))))) none = subst DrivesNone is none

-- words that ask it ask none that looks
pub asks_nothing : AsksOnce → (words : List (List ℕ)) (root : List ℕ) (order : Order) → IsOrder words root order → (DrivesNone order → ⊥) →
    AsksNothing words
asks_nothing once words root order is drives other asks =
    drives (subst DrivesNone (sym (once words root asks.root order other is asks.is_order).1) asks.drives_none)

module _ (seed : ℕ) (store : Store) (printed : Printed) (result : Status) where
  which : (a : Answer) → WorkloadAnswer seed store a → IsPrinted printed result a → (result ≡ status.Done) ⊎ (result ≡ status.Edge) ⊎ (result ≡ status.Memory)
  which a comes (inr told) = inr (inl told.0)
  which (Drawn text) comes (inl told) = inl told.0
  which NoMemory comes (inl told) = inr (inr told.0)
  which a comes (inl told) = absurd comes.1

  done : (a : Answer) → WorkloadAnswer seed store a → IsPrinted printed result a → result ≡ status.Done → (text : List ℕ) × IsTally seed text ×
      HasPrinted printed text
  done a comes (inr told) is = cc
  done (Drawn text) comes (inl told) is = (text, comes.1, told.1)
  done NoMemory comes (inl told) is = cc
  done a comes (inl told) is = absurd comes.1

  reads_only : (a : Answer) → WorkloadAnswer seed store a → IsUnchanged store
  reads_only NoMemory comes = comes
  reads_only a comes = comes.0

  pub workload_parts : (a : Answer) → WorkloadAnswer seed store a → IsPrinted printed result a → WorkloadParts seed store printed result
  workload_parts a comes told = record { which = which a comes told; done = done a comes told; reads_only = reads_only a comes }
