-- Bytes are one document at most.
use Rattle.std.proofs.Common.{◌≡◌, ℕ, List, length, Option, Some, None, option_map, inl, inr, refl, ap, sym, subst, ◌∙◌, arith}
use Rattle.serde_json.specs.Data.{Data, null, boolean, number, string, array, object}
use Rattle.serde_json.specs.Find.{get}
use Rattle.nuc_base.specs.Pointers.{tokens}
use Rattle.nuc_base.specs.declared.kinds.Policy.{Policy}
use Rattle.nuc_base.specs.declared.kinds.Policy.TheVariants.{Rollback, DoNothing}
use Rattle.tree_core.specs.Laws.{IsOneTree}
use Rattle.tree_core.specs.Parts.{present, values}
use Rattle.tree_core.specs.Reading.{IsTreeOf}
use Rattle.tree_core.specs.View.{view}
use Rattle.tree_core.specs.declared.tree.Tree.{Tree}
use Rattle.tree_core.proofs.Among.{zip_alike, zip_one}
use Rattle.config_ops.specs.declared.update.Update.{Update}
use Rattle.deployment_doc.specs.Lines.{text_limit, reset_in, merge_in, IsMergeObject}
use Rattle.deployment_doc.specs.Named.{IsId, IsRevision, IsPolicy, IsReset, AreResets, IsMerge, IsUpdate, IsRoot, IsDocument, policy_word, inner, components}
use Rattle.deployment_doc.specs.OneDocument.{IsDocumentOf, AreSameUpdates, IsSameRoot, AreAlike}
use Rattle.deployment_doc.specs.Spelled.{spelled}
use Rattle.deployment_doc.specs.declared.document.Document.{Document}
use Rattle.deployment_doc.specs.declared.document.Root.{Root}
use Rattle.deployment_doc.specs.declared.fault.Key.TheVariants.{DeploymentId, Revision, DeploymentPolicies, FailureHandlingPolicy, Components}

id_one : (bytes : List ℕ) (o : Option Data) (a b : List ℕ) → IsId bytes o a → IsId bytes o b → a ≡ b
id_one bytes None a b h k = h ∙ sym k
id_one bytes (Some v) a b h k = cc (h, k)

found_one : (o : Option Data) (a b : List ℕ) → o ≡ Some (string a) → o ≡ Some (string b) → a ≡ b
found_one o a b h k = cc (h, k)

revision_one : (o : Option Data) (a b : ℕ) → IsRevision o a → IsRevision o b → a ≡ b
revision_one None a b h k = h ∙ sym k
revision_one (Some v) a b h k = cc (h, k)

abbrev text_length : Data → ℕ
text_length null = 0
text_length (boolean b) = 0
text_length (number n) = 0
text_length (string s) = length s
text_length (array ds) = 0
text_length (object ms) = 0

longer : (a b : ℕ) → a ≡ 8 → b ≡ 10 → a ≡ b → ⊥
longer a b is other e = omega (arith, is, other, e)

words_one : (a b : Policy) (s : Data) → s ≡ string (policy_word a) → s ≡ string (policy_word b) → a ≡ b
words_one Rollback Rollback s h k = refl
words_one Rollback DoNothing s h k = absurd (longer 8 10 refl refl (ap text_length (sym h ∙ k)))
words_one DoNothing Rollback s h k = absurd (longer 8 10 refl refl (ap text_length (sym k ∙ h)))
words_one DoNothing DoNothing s h k = refl

policy_one : (o : Option Data) (a b : Policy) → IsPolicy o a → IsPolicy o b → a ≡ b
policy_one None a b h k = h ∙ sym k
policy_one (Some v) a b h k = words_one a b v h k

reset_one : (v : Data) (p q : List (List ℕ)) → IsReset v p → IsReset v q → p ≡ q
reset_one v p q h k =
    let same : h.0 ≡ k.0 = cc (h.1, k.1) in
    h.2 ∙ ap tokens same ∙ sym k.2

resets_one : (o : Option Data) (a b : List (List (List ℕ))) → AreResets o a → AreResets o b → a ≡ b
resets_one None a b h k = h ∙ sym k
resets_one (Some v) a b h k = zip_one IsReset reset_one (values v) a b h k

module _ (one_tree : IsOneTree) where
  no_both : (v d : Data) (s : List ℕ) → v ≡ string s → IsMergeObject v d → v ≡ d → ⊥
  no_both v d s text h same = let object = h.0.1 in cc (text, same, object)

  merges_one : (v d e : Data) → IsMergeObject v d → IsMergeObject v e → d ≡ e
  merges_one v d e h k = elim h.1 [
    | inl a ↦ elim k.1 [
      | inl b ↦ sym a ∙ b
      | inr b ↦ absurd (no_both v d b.0 b.1 h a)
    ]
    | inr a ↦ elim k.1 [
      | inl b ↦ absurd (no_both v e a.0 a.1 k b)
      | inr b ↦ (let same : a.0 ≡ b.0 = cc (a.1, b.1) in one_tree b.0 text_limit d e (subst (λ (s : List ℕ). IsTreeOf s text_limit d) same a.2) b.2)
    ]
  ]

  merge_one : (o : Option Data) (a b : Option Tree) → IsMerge o a → IsMerge o b → option_map view a ≡ option_map view b
  merge_one None None None h k = refl
  merge_one None None (Some b) h k = absurd k
  merge_one None (Some a) b h k = absurd h
  merge_one (Some v) None b h k = absurd h
  merge_one (Some v) (Some a) None h k = absurd k
  merge_one (Some v) (Some a) (Some b) h k = ap Some (merges_one v (view a) (view b) h.0 k.0)

  update_one : (o : Option Data) (a b : Option Update) → IsUpdate o a → IsUpdate o b → AreSameUpdates a b
  update_one None None None h k = tt
  update_one None None (Some b) h k = absurd k
  update_one None (Some a) b h k = absurd h
  update_one (Some v) None b h k = absurd h
  update_one (Some v) (Some a) None h k = absurd k
  update_one (Some v) (Some a) (Some b) h k = (
    resets_one (reset_in v) a.resets b.resets h.resets k.resets,
    merge_one (merge_in v) a.merge b.merge h.merge k.merge,
  )

  root_one : (m : List ℕ × Data) (r s : Root) → IsRoot m r → IsRoot m s → IsSameRoot r s
  root_one m r s h k = record {
    name = h.name ∙ sym k.name;
    range = found_one _ r.range s.range h.range k.range;
    update = update_one _ r.update s.update h.update k.update;
  }

  document_one : (bytes : List ℕ) (d : Data) (a b : Document) → IsDocument bytes d a → IsDocument bytes d b → AreAlike a b
  document_one bytes d a b h k = record {
    id = id_one bytes (present (get (spelled DeploymentId) d)) a.id b.id h.id k.id;
    group = found_one _ a.group b.group h.group k.group;
    revision = revision_one (present (get (spelled Revision) d)) a.revision b.revision h.revision k.revision;
    policy = policy_one (inner (present (get (spelled DeploymentPolicies) d)) (spelled FailureHandlingPolicy)) a.policy b.policy h.policy k.policy;
    roots = zip_alike IsRoot IsSameRoot root_one (components (present (get (spelled Components) d))) a.roots b.roots h.roots k.roots;
  }

  pub reads_one : (bytes : List ℕ) (a b : Document) → IsDocumentOf bytes a → IsDocumentOf bytes b → AreAlike a b
  reads_one bytes a b h k =
      document_one bytes k.0 a b (subst (λ (d : Data). IsDocument bytes d a) (one_tree bytes text_limit h.0 k.0 h.1 k.1) h.3) k.3
