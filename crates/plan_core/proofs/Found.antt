-- What is found by a name, and what holds of it.
use Rattle.std.proofs.Common.{◌≡◌, ℕ, List, [], ◌∷◌, Bool, true, false, refl, sym, subst}
use Rattle.std.specs.Prelude.{Option, Some, None, IfSome, find}
use Rattle.std.specs.List.{Contains}
use Rattle.std.specs.Str.{bytes_eq}
use Rattle.std.proofs.lemmas.List.Elements.{All-contains}
use Rattle.nuc_base.proofs.Lists.{in_here, in_there}
use Rattle.tree_core.specs.Parts.{IsObject}
use Rattle.tree_core.specs.View.{view}
use Rattle.tree_core.specs.Regular.{IsRegular}
use Rattle.config_ops.specs.NewConfig.{IsRegularUpdate}
use Rattle.config_ops.specs.declared.update.Update.{Update}
use Rattle.records.specs.Stored.{Item}
use Rattle.device.specs.Plans.{AreRegularItems}
use Rattle.deployment_doc.specs.Sound.{AreSound, UpdatesByObject, MergesObject}
use Rattle.deployment_doc.specs.declared.document.Root.{Root}
use Rattle.plan_core.specs.Set.{item_named, root_named}
use Rattle.tree_core.specs.declared.tree.Tree.{Tree}

-- what is found is in the list, and passes the test
find_at : {X : Type 0} (test : X → Bool) (y : X) (ys : List X) (x : X) (b : Bool) → test y ≡ b
    → ((find test ys ≡ Some x) → Contains ys x × (test x ≡ true))
    → find test (y ∷ ys) ≡ Some x → Contains (y ∷ ys) x × (test x ≡ true)
find_at test y ys x true e more is =
    let here : Some y ≡ Some x = rw e at is in
    let same : y ≡ x = cc in
    subst (λ z. Contains (y ∷ ys) z × (test z ≡ true)) same (in_here y ys, e)
find_at test y ys x false e more is =
    let there : find test ys ≡ Some x = rw e at is in
    ((in_there y ys x (more there).0), (more there).1)

pub found : {X : Type 0} (test : X → Bool) (xs : List X) (x : X) → find test xs ≡ Some x → Contains xs x × (test x ≡ true)
found test [] x is = absurd (cc)
found test (y ∷ ys) x is = find_at test y ys x (test y) refl (found test ys x) is

pub kept_regular : (n : List ℕ) (items : List Item) (i : Item) → AreRegularItems items → Some i ≡ item_named n items → IsRegular i.config
kept_regular n items i regular is = All-contains (λ (item : Item). IsRegular item.config) items i regular
    (found (λ (item : Item). bytes_eq n item.name) items i (sym is)).0

regular_merge : (o : Option Tree) → IfSome o (λ t. IsObject (view t) × IsRegular (view t)) → IfSome o (λ t. IsRegular (view t))
regular_merge None h = tt
regular_merge (Some t) h = h.1

regular_update : (o : Option Update) → IfSome o MergesObject → IfSome o IsRegularUpdate
regular_update None h = tt
regular_update (Some u) h = regular_merge u.merge h

pub change_regular : (n : List ℕ) (roots : List Root) (r : Root) (u : Update) → AreSound roots → Some r ≡ root_named n roots → r.update ≡ Some u →
    IsRegularUpdate u
change_regular n roots r u sound is e =
    let by : UpdatesByObject r = All-contains UpdatesByObject roots r sound.merges (found (λ (root : Root). bytes_eq n root.name) roots r (sym is)).0 in
    subst (λ o. IfSome o IsRegularUpdate) e (regular_update r.update by)
