-- An update's merge that is a text.
use Rattle.std.proofs.Common.{subst, inl, inr, ◌≡◌, ◌⊎◌, List, ℕ, Result, Ok, Err, MatchResult}
use Rattle.serde_json.specs.Data.{Data, string, object, Members}
use Rattle.nuc_base.specs.Tables.{AnswerBy}
use Rattle.tree_core.specs.View.{view}
use Rattle.tree_core.specs.Parts.{IsObject}
use Rattle.tree_core.specs.Reading.{IsTreeOf}
use Rattle.tree_core.specs.Regular.{IsRegular}
use Rattle.tree_core.specs.declared.tree.Tree.{Tree}
use Rattle.deployment_doc.specs.Lines.{text_limit, IsMergeObject, merge_lines}
use Rattle.deployment_doc.specs.declared.fault.DocFault.{DocFault}
use Rattle.deployment_doc.specs.declared.fault.DocFault.TheVariants.{NoMemory, BadMerge}

same_text : (v : Data) (s t : List ℕ) → v ≡ string s → v ≡ string t → t ≡ s
same_text v s t a b = cc

no_text : (v d : Data) (s : List ℕ) (ms : Members) → v ≡ string s → v ≡ d → d ≡ object ms → ⊥
no_text v d s ms a b c = cc

merges_none : (v d : Data) (s : List ℕ) → v ≡ string s → (IsTreeOf s text_limit d → IsObject d → ⊥) → IsMergeObject v d → ⊥
merges_none v d s text none h = elim h.1 [
  | inl same ↦ no_text v d s h.0.0 text same h.0.1
  | inr q ↦ none (subst (λ (t : List ℕ). IsTreeOf t text_limit d) (same_text v s q.0 text q.1) q.2) h.0
]

pub merge_text : (name : List ℕ) (v : Data) (s bytes : List ℕ) (result : Result Tree DocFault) → v ≡ string s → bytes ≡ s
    → MatchResult result (λ t. IsTreeOf bytes text_limit (view t) × IsObject (view t) × IsRegular (view t)) (λ f. (f ≡ NoMemory)
    ⊎ ((f ≡ BadMerge name) × ((d : Data) → IsTreeOf bytes text_limit d → IsObject d → ⊥)))
    → AnswerBy NoMemory (merge_lines name v) (λ t. IsMergeObject v (view t) × IsRegular (view t)) result
merge_text name v s bytes (Ok t) text same h =
    let merges : IsMergeObject v (view t) = (h.1, inr (s, text, subst (λ (bs : List ℕ). IsTreeOf bs text_limit (view t)) same h.0)) in
    (((view t, merges), tt), (merges, h.2))
merge_text name v s bytes (Err f) text same (inl h) = inl h
merge_text name v s bytes (Err f) text same (inr h) =
    inr (inl ((λ m. merges_none v m.0 s text (subst (λ (bs : List ℕ). IsTreeOf bs text_limit m.0 → IsObject m.0 → ⊥) same (h.1 m.0)) m.1), h.0))
