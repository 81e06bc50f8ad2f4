-- Bytes have one fault at most, and none where they are a document.
use Rattle.std.proofs.Common.{◌≡◌, ℕ, List, inl, inr, ap, sym, subst, ◌∙◌}
use Rattle.serde_json.specs.Data.{Data}
use Rattle.nuc_base.specs.Tables.{AllHold, IsFirst}
use Rattle.nuc_base.proofs.Tables.{first_one, first_excludes}
use Rattle.tree_core.specs.Laws.{IsOneTree, HasNoFault, IsOneFault}
use Rattle.tree_core.specs.Reading.{IsTreeOf}
use Rattle.deployment_doc.specs.Lines.{text_limit, document_lines}
use Rattle.deployment_doc.specs.Reads.{IsFault}
use Rattle.deployment_doc.specs.declared.fault.DocFault.{DocFault}
use Rattle.deployment_doc.specs.declared.fault.DocFault.TheVariants.{Tree}

module _ (one_tree : IsOneTree) (no_fault : HasNoFault) (one_fault : IsOneFault) (bytes : List ℕ) where
  pub fault_one : (f g : DocFault) → IsFault bytes f → IsFault bytes g → f ≡ g
  fault_one f g (inl a) (inl b) = a.1 ∙ ap Tree (one_fault bytes text_limit a.0 b.0 a.2 b.2 a.3 b.3) ∙ sym b.1
  fault_one f g (inl a) (inr b) = absurd (a.3 (no_fault bytes text_limit b.0 a.0 b.1 a.2))
  fault_one f g (inr a) (inl b) = absurd (b.3 (no_fault bytes text_limit a.0 b.0 a.1 b.2))
  fault_one f g (inr a) (inr b) =
      first_one (document_lines b.0) f g (subst (λ (d : Data). IsFirst (document_lines d) f) (one_tree bytes text_limit a.0 b.0 a.1 b.1) a.2) b.2

  pub fault_none : (d : Data) (f : DocFault) → IsTreeOf bytes text_limit d → AllHold (document_lines d) → IsFault bytes f → ⊥
  fault_none d f is h (inl a) = a.3 (no_fault bytes text_limit d a.0 is a.2)
  fault_none d f is h (inr b) =
      first_excludes (document_lines b.0) f (subst (λ (e : Data). AllHold (document_lines e)) (one_tree bytes text_limit d b.0 is b.1) h) b.2
