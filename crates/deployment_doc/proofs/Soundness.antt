-- The roots that the lines name are sound.
use Rattle.std.proofs.Common.{◌≤◌, ℕ, List, [], ◌∷◌, length, Option, Some, None, Result, Ok, Err, IfSome, IfOk, sym, subst, arith, lit≤}
use Rattle.std.specs.List.{All, AllZip}
use Rattle.std.specs.List.Sorted.{IsStrictlySortedBy}
use Rattle.std.proofs.lemmas.List.Elements.{All-cons, All-nil}
use Rattle.std.proofs.lemmas.Slice.Zip.{AllZip-long}
use Rattle.serde_json.specs.Data.{Data, object, Members}
use Rattle.serde_json.specs.Find.{get}
use Rattle.nuc_base.specs.Tables.{AllHold, AnswerBy, on}
use Rattle.tree_core.specs.Parts.{present, IsObject, members, pairs_of}
use Rattle.tree_core.specs.Regular.{IsRegular}
use Rattle.tree_core.specs.View.{view}
use Rattle.tree_core.specs.declared.tree.Tree.{Tree}
use Rattle.config_ops.specs.declared.update.Update.{Update}
use Rattle.deployment_doc.specs.Lines.{components_lines, document_lines, merge_in}
use Rattle.deployment_doc.specs.Named.{IsRoot, IsUpdate, IsUpdateOf, IsMerge, IsDocument, components}
use Rattle.deployment_doc.specs.Sound.{AreSound, MergesObject, UpdatesByObject, root_name}
use Rattle.deployment_doc.specs.Spelled.{spelled}
use Rattle.deployment_doc.specs.declared.document.Document.{Document}
use Rattle.deployment_doc.specs.declared.document.Root.{Root}
use Rattle.deployment_doc.specs.declared.fault.DocFault.{DocFault}
use Rattle.deployment_doc.specs.declared.fault.DocFault.TheVariants.{NoMemory}
use Rattle.deployment_doc.specs.declared.fault.Key.TheVariants.{Components}
use Rattle.nuc_base.proofs.Tables.{hold_last}
use Rattle.tree_core.proofs.RegularParts.{get_regular, present_regular}
use Rattle.tree_core.proofs.Rising.{names_rise}
use Rattle.deployment_doc.proofs.Rows.{above_roots, roots}

-- ---- merges

merge_object : (o : Option Data) (m : Option Tree) → IsMerge o m → IfSome m (λ t. IsObject (view t) × IsRegular (view t))
merge_object None None h = tt
merge_object None (Some t) h = absurd h
merge_object (Some v) None h = absurd h
merge_object (Some v) (Some t) h = (h.0.0, h.1)

-- the update that the lines name merges an object
pub named_object : (v : Data) (update : Update) → IsUpdateOf v update → MergesObject update
named_object v update h = merge_object (merge_in v) update.merge h.merge

update_object : (o : Option Data) (u : Option Update) → IsUpdate o u → IfSome u MergesObject
update_object None None h = tt
update_object None (Some u) h = absurd h
update_object (Some v) None h = absurd h
update_object (Some v) (Some u) h = named_object v u h

all_merge : (ms : List (List ℕ × Data)) (rs : List Root) → AllZip IsRoot ms rs → All UpdatesByObject rs
all_merge [] [] h = All-nil UpdatesByObject
all_merge [] (r ∷ rs) h = absurd h
all_merge (m ∷ ms) [] h = absurd h
all_merge (m ∷ ms) (r ∷ rs) h = All-cons UpdatesByObject r rs (update_object _ r.update h.0.update) (all_merge ms rs h.1)

-- ---- the whole

object_sound : (ms : Members) (rs : List Root) → IsRegular (object ms) → length (pairs_of ms) ≤ 128 → AllZip IsRoot (pairs_of ms) rs → AreSound rs
object_sound ms rs r few h =
    let long = AllZip-long IsRoot (pairs_of ms) rs h in
    record {
      few = omega (arith, long, few);
      rising = names_rise root_name IsRoot (λ m root is. is.name) ms rs r.orderly h;
      merges = all_merge (pairs_of ms) rs h;
    }

roots_sound : (o : Option Data) (rs : List Root) → IfSome o IsRegular → AllHold (on o components_lines) → AllZip IsRoot (components o) rs → AreSound rs
unfolding IsStrictlySortedBy
roots_sound None [] r h z = record { few = lit≤ tt; rising = tt; merges = All-nil UpdatesByObject }
roots_sound None (root ∷ rs) r h z = absurd z
roots_sound (Some v) rs r h z =
    subst (λ (w : Data). IsRegular w → length (members w) ≤ 128 → AllZip IsRoot (members w) rs → AreSound rs) (sym h.0.1) (object_sound h.0.0 rs) r h.1.0 z

pub sound : (bytes : List ℕ) (d : Data) (result : Result Document DocFault) → IsRegular d
    → AnswerBy NoMemory (document_lines d) (IsDocument bytes d) result → IfOk result (λ document. AreSound document.roots)
sound bytes d (Err f) r h = tt
sound bytes d (Ok document) r h =
    roots_sound (present (get (spelled Components) d)) document.roots (present_regular (get (spelled Components) d) (get_regular (spelled Components) d r))
    (hold_last (above_roots d) (roots d) h.0) h.1.roots
