-- Plans that are taken in, the files of a whole device's own plan, and the devices along a call.
use Rattle.std.proofs.Common.{◌≡◌, ◌⊎◌, ℕ, Bool, true, false, List, [], ◌∷◌, ◌++◌, map, refl, sym, ap, subst, ◌∙◌, inl, inr}
use Rattle.std.specs.Prelude.{◌||◌, ◌&&◌, Ok}
use Rattle.std.specs.List.{Contains, list_any}
use Rattle.std.specs.Str.{bytes_eq}
use Rattle.std.proofs.lemmas.Slice.Eq.{bytes_eq-Decides}
use Rattle.nuc_base.specs.Tables.{AllHold, Table, each}
use Rattle.nuc_base.proofs.Lists.{from_map, in_cons, in_here, in_nil, in_there}
use Rattle.nuc_base.proofs.Tables.{all_both}
use Rattle.config_ops.specs.Laws.{ConfigIsFilled}
use Rattle.recipe_reader.specs.OneRecipe.{IsOneRecipe}
use Rattle.recipe_reader.specs.SetLaws.{DependsOnElements}
use Rattle.recipe_reader.specs.Sound.{ReadsSound}
use Rattle.recipe_reader.specs.declared.candidate.Candidate.{Candidate}
use Rattle.library_core.specs.Library.{Artifacts}
use Rattle.records.specs.Stored.{DraftItem, Item, Record, plan_view}
use Rattle.artifact_store.specs.Staged.{artifact_lines, draft_lines, is_kept, is_same, item_lines, unless}
use Rattle.artifact_store.specs.declared.fault.StageFault.{StageFault}
use Rattle.device.specs.Devices.{Device}
use Rattle.device.specs.Lawful.{Run, applied}
use Rattle.plan_core.specs.Looks.{IsOf}
use Rattle.plan_core.specs.Set.{item_of, items_of}
use Rattle.law_whole.specs.Taking.{BroughtStayWhole, OwnNeedsNoFile, TakenAreWhole}
use Rattle.law_whole.specs.Whole.{BringWhole, BringsWhole}
use Rattle.law_whole.proofs.Bringing.{plans_are_whole, right_of}
use Rattle.law_whole.proofs.Owning.{own_set_is_chosen}
use Rattle.law_whole.proofs.Stepping.{after_run}

-- ---- a plan that is taken in

pub taken_are_whole : ConfigIsFilled → ReadsSound → DependsOnElements → TakenAreWhole
taken_are_whole filled_law reads_sound elements d o content before after document plan sound regular whole is roots takes =
    plans_are_whole filled_law reads_sound elements o d takes.0 document takes.1 (plan_view plan) sound regular whole is
    takes.2.0.1.1.0.gathered roots takes.2.0.1.1.1.1.0 takes.2.1.fills

-- ---- files

any_here : {X : Type 0} (test : X → Bool) (y : X) (ys : List X) (b : Bool) → test y ≡ b → (b ≡ true) ⊎ (list_any test ys ≡ true) → list_any test (y ∷ ys) ≡ true
any_here test y ys true is h = rw is refl
any_here test y ys false is (inl h) = absurd cc
any_here test y ys false is (inr h) = rw is h

any_of : {X : Type 0} (test : X → Bool) (xs : List X) (x : X) → Contains xs x → test x ≡ true → list_any test xs ≡ true
any_of test [] x i passes = absurd (in_nil x i)
any_of test (y ∷ xs) x i passes = any_here test y xs (test y) refl (elim (in_cons y xs x i) [
  | inl e ↦ inl (ap test e ∙ passes)
  | inr j ↦ inr (any_of test xs x j passes)
])

is_item : (x : DraftItem) (k : Item) → k.name ≡ x.name → k.version ≡ x.version → is_same x k ≡ true
is_item x k name version = ap (λ (b : Bool). b && bytes_eq k.version x.version) ((bytes_eq-Decides k.name x.name).1 name)
    ∙ (bytes_eq-Decides k.version x.version).1 version

kept_holds : (l : Artifacts) (kept : List Item) (x : DraftItem) → is_kept kept x ≡ true → AllHold (item_lines l kept x)
kept_holds l kept x is = subst (λ (b : Bool). AllHold (unless b (each (artifact_lines l x) x.artifacts))) (sym is) tt

all_of_each : {A : Type 0} (lines : A → Table StageFault) (xs : List A) → ((x : A) → Contains xs x → AllHold (lines x)) → AllHold (each lines xs)
all_of_each lines [] h = tt
all_of_each lines (x ∷ xs) h = all_both (lines x) (each lines xs) (h x (in_here x xs)) (all_of_each lines xs (λ y i. h y (in_there x xs y i)))

pub own_needs_no_file : IsOneRecipe → DependsOnElements → OwnNeedsNoFile
own_needs_no_file one elements o d cs document draft sound whole is gathered same planned l =
    let of = own_set_is_chosen one elements o d cs planned.plan.choice document sound whole is gathered same planned.plan.is_choice in
    all_of_each (item_lines l d.set) draft.items (λ x i. (
    let c = from_map (item_of d.set document.roots) planned.plan.choice x (subst (λ (xs : List DraftItem). Contains xs x) planned.plan.items i) in
    let k = right_of IsOf planned.plan.choice d.set of c.0 c.1 in
    let drafted : is_kept d.set (item_of d.set document.roots c.0) ≡ true = any_of (is_same (item_of d.set document.roots c.0)) d.set k.0 k.1
    (is_item (item_of d.set document.roots c.0) k.0 k.2.0 k.2.1) in
    kept_holds l d.set x (subst (λ (y : DraftItem). is_kept d.set y ≡ true) c.2 drafted)))

-- ---- along a call

prefix_brings : (d : Device) (prefix rest : List Record) → BringWhole d (prefix ++ rest) → BringWhole d prefix
prefix_brings d [] rest brings = tt
prefix_brings d (r ∷ prefix) rest brings = (brings.0, prefix_brings (applied d r) prefix rest brings.1)

pub brought_stay_whole : BroughtStayWhole
brought_stay_whole d records brings whole prefix rest e split run =
    after_run prefix d e whole run (prefix_brings d prefix rest (subst (BringWhole d) split brings))
