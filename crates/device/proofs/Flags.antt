-- Names with a flag, and the backs.
use Rattle.std.proofs.Common.{◌≡◌, ℕ, zero, suc, ◌+◌, ◌-◌, ◌<◌, ◌≤◌, Bool, true, false, cond, List, [], ◌∷◌, ◌++◌, length, map, take, drop, get_or, Option}
use Rattle.std.proofs.Common.{Some, None, refl, sym, ap, subst, ◌∙◌, arith, is_some}
use Rattle.std.specs.Prelude.{slice_get, slice_set, filter, option_map, IsTrue, ◌↔◌, if◌then◌else◌}
use Rattle.std.specs.List.{AllByRecursion}
use Rattle.std.specs.Option.{IfSome, option_map_or}
use Rattle.std.proofs.lemmas.List.{drop_more, drop_all, take_more, take_more_set, take_all, map-append}
use Rattle.device.specs.declared.staged.Stage.{Stage}
use Rattle.device.specs.declared.staged.Stage.TheVariants as stages
use Rattle.device.specs.declared.staged.Pending as code_pending
use Rattle.device.specs.Devices.{Pending, chosen, pending_view}
use Rattle.nuc_base.specs.declared.platform.Platform.{Platform}
use Rattle.recipe_reader.specs.Backs.{is_back}
use Rattle.records.specs.Stored.{Item}
use Rattle.records.specs.declared.record.Origin.{Origin}
use Rattle.device.specs.Backing.{TellsBackOf, TellsBack, TellBacks}
use Rattle.device.specs.Lawful.{MayBreak, MayGoBack, next_boot, reach_of, backs_of, sent_to, sent_back, IsReadable, goes_back, item_named}
use Rattle.device.specs.Plans.{HasSomeRecipe}
use Rattle.device.proofs.PlanLoops.{next}

chosen_none : (flags : List Bool) → chosen flags [] ≡ []
chosen_none [] = refl
chosen_none (b ∷ flags) = refl

pub chosen_short : (flags : List Bool) (names : List (List ℕ)) → length (chosen flags names) ≤ length names
chosen_short [] names = omega arith
chosen_short (b ∷ flags) [] = omega arith
chosen_short (b ∷ flags) (n ∷ names) = by b (chosen_short flags names)
  where
    by : (b : Bool) → length (chosen flags names) ≤ length names → length (if b then n ∷ chosen flags names else chosen flags names) ≤ length (n ∷ names)
    by true rest = omega (arith, rest)
    by false rest = omega (arith, rest)

take_short : {A : Type 0} (k : ℕ) (xs : List A) → length (take k xs) ≤ length xs
take_short zero xs = omega arith
take_short (suc k) [] = omega arith
take_short (suc k) (x ∷ xs) = let rest = take_short k xs in omega (arith, rest)

pub within : {A : Type 0} (xs : List A) (k : ℕ) → is_some (slice_get xs k) ≡ true → k < length xs
within [] k h = absurd cc
within (x ∷ xs) zero h = omega arith
within (x ∷ xs) (suc k) h = let rest = within xs k h in omega (arith, rest)

-- ---- a walk over the names with a flag

flag_next : (flags : List Bool) (names : List (List ℕ)) (i : ℕ) (n : List ℕ) → i < length names → length names ≤ length flags → n ≡ get_or names i n
    → chosen (drop i flags) (drop i names) ≡ (if get_or flags i false then n ∷ chosen (drop (i + 1) flags) (drop (i + 1) names) else chosen
    (drop (i + 1) flags) (drop (i + 1) names))
flag_next flags names i n below many is =
    let f : drop i flags ≡ get_or flags i false ∷ drop (i + 1) flags = drop_more flags i false (omega (arith, below, many)) in
    let m : drop i names ≡ n ∷ drop (i + 1) names = next names i n below is in
    ap (λ fs. chosen fs (drop i names)) f ∙ ap (λ ns. chosen (get_or flags i false ∷ drop (i + 1) flags) ns) m

flag_true : (flags : List Bool) (names : List (List ℕ)) (i : ℕ) (n : List ℕ) → i < length names → length names ≤ length flags → n ≡ get_or names i n →
    get_or flags i false ≡ true
    → chosen (drop i flags) (drop i names) ≡ n ∷ chosen (drop (i + 1) flags) (drop (i + 1) names)
flag_true flags names i n below many is on =
    let rest = chosen (drop (i + 1) flags) (drop (i + 1) names) in
    flag_next flags names i n below many is ∙ ap (λ (b : Bool). if b then n ∷ rest else rest) on

-- the name here is the one sought
pub flag_here : (flags : List Bool) (names : List (List ℕ)) (i left : ℕ) (n : List ℕ) (X : Option (List ℕ)) → i < length names → length names ≤ length flags →
    n ≡ get_or names i n → get_or flags i false ≡ true → left ≡ 0
    → slice_get (chosen (drop i flags) (drop i names)) left ≡ X → Some n ≡ X
flag_here flags names i left n X below many is on none h =
    let e = flag_true flags names i n below many is on in
    sym (ap (λ (l : List (List ℕ)). slice_get l left) e ∙ ap (slice_get (n ∷ chosen (drop (i + 1) flags) (drop (i + 1) names))) none) ∙ h

-- one later
later : {A : Type 0} (x : A) (xs : List A) (k : ℕ) → (k ≡ 0 → ⊥) → slice_get (x ∷ xs) k ≡ slice_get xs (k - 1)
later x xs zero some = absurd (some refl)
later x xs (suc k) some = let same : k ≡ suc k - 1 = omega arith in ap (slice_get xs) same

pub flag_past : (flags : List Bool) (names : List (List ℕ)) (i left : ℕ) (n : List ℕ) (X : Option (List ℕ)) → i < length names → length names ≤ length flags →
    n ≡ get_or names i n → get_or flags i false ≡ true → (left ≡ 0 → ⊥)
    → slice_get (chosen (drop i flags) (drop i names)) left ≡ X → slice_get (chosen (drop (i + 1) flags) (drop (i + 1) names)) (left - 1) ≡ X
flag_past flags names i left n X below many is on some h =
    let e = flag_true flags names i n below many is on in
    sym (later n (chosen (drop (i + 1) flags) (drop (i + 1) names)) left some) ∙ sym (ap (λ (l : List (List ℕ)). slice_get l left) e) ∙ h

pub flag_off : (flags : List Bool) (names : List (List ℕ)) (i left : ℕ) (n : List ℕ) (X : Option (List ℕ)) → i < length names → length names ≤ length flags →
    n ≡ get_or names i n → get_or flags i false ≡ false
    → slice_get (chosen (drop i flags) (drop i names)) left ≡ X → slice_get (chosen (drop (i + 1) flags) (drop (i + 1) names)) left ≡ X
flag_off flags names i left n X below many is off h =
    let rest = chosen (drop (i + 1) flags) (drop (i + 1) names) in
    let e = flag_next flags names i n below many is ∙ ap (λ (b : Bool). if b then n ∷ rest else rest) off in
    sym (ap (λ (l : List (List ℕ)). slice_get l left) e) ∙ h

pub flag_end : (flags : List Bool) (names : List (List ℕ)) (i left : ℕ) (X : Option (List ℕ)) → length names ≤ i →
    slice_get (chosen (drop i flags) (drop i names)) left ≡ X → None ≡ X
flag_end flags names i left X past h =
    let e : chosen (drop i flags) (drop i names) ≡ [] = ap (chosen (drop i flags)) (drop_all i names past) ∙ chosen_none (drop i flags) in
    sym (ap (λ (l : List (List ℕ)). slice_get l left) e) ∙ h

-- ---- what ended can count

pub few_ended : (q : code_pending.Pending) → length q.plan.boots ≤ 128 → is_some (next_boot (pending_view q)) ≡ true → q.ended < 128
few_ended q few some = by q.stage some
  where
    by : (s : Stage) → is_some (next_boot (record (pending_view q) { stage = s })) ≡ true → q.ended < 128
    by stages.Booting h = let below = within q.plan.boots q.ended h in omega (arith, below, few)
    by stages.Activating h = absurd cc
    by stages.Backing h =
        let below = within (chosen q.back_flags (take q.reach q.plan.boots)) q.ended h in
        let short = chosen_short q.back_flags (take q.reach q.plan.boots) in
        let prefix = take_short q.reach q.plan.boots in
        omega (arith, below, short, prefix, few)
    by stages.Rolling h = absurd cc

-- ---- flags that recipes tell

pub told_more : (p : List ℕ → Bool) (flags : List Bool) (names : List (List ℕ)) (i : ℕ) (n : List ℕ) (b : Bool) → i < length names →
    length names ≤ length flags → n ≡ get_or names i n → b ≡ p n
    → take i flags ≡ map p (take i names) → take (i + 1) (slice_set flags i b) ≡ map p (take (i + 1) names)
told_more p flags names i n b below many is same h =
    take_more_set flags i b (omega (arith, below, many))
    ∙ ap (λ (l : List Bool). l ++ b ∷ []) h
    ∙ ap (λ (x : Bool). map p (take i names) ++ x ∷ []) (same ∙ ap p is)
    ∙ sym (ap (map p) (take_more names i n below) ∙ map-append p (take i names) (get_or names i n ∷ []))

-- the flags of a prefix of the names choose those that the test chooses
pub chosen_told : (p : List ℕ → Bool) (flags : List Bool) (names : List (List ℕ)) (k : ℕ) → take (length names) flags ≡ map p names →
    chosen flags (take k names) ≡ filter p (take k names)
chosen_told p flags names zero h = chosen_none flags
chosen_told p flags [] (suc k) h = chosen_none flags
chosen_told p [] (n ∷ names) (suc k) h = absurd cc
chosen_told p (b ∷ flags) (n ∷ names) (suc k) h =
    let first : b ≡ p n = cc in
    let rest : take (length names) flags ≡ map p names = cc in
    ap (λ (x : Bool). if x then n ∷ chosen flags (take k names) else chosen flags (take k names)) first
    ∙ ap (λ (l : List (List ℕ)). cond (p n) (n ∷ l) l) (chosen_told p flags names k rest)

tells_of : (platform : Platform) (o : Option Item) (b : Bool) → TellsBackOf platform o (Some b) → IfSome o (λ i. HasSomeRecipe platform i.recipe) ×
    (b ≡ option_map_or (λ i. is_back platform i.recipe) o false)
tells_of platform None b h = (tt, let is : b ≡ false = cc in is)
tells_of platform (Some i) b h = h

pub told_flag : (platform : Platform) (set : List Item) (n : List ℕ) (b : Bool) → TellsBack platform set n (Some b) → IsReadable platform set n ×
    (b ≡ goes_back platform set n)
told_flag platform set n b h = tells_of platform (item_named n set) b h

tells_none : (platform : Platform) (o : Option Item) → TellsBackOf platform o None → IfSome o (λ i. HasSomeRecipe platform i.recipe) → ⊥
tells_none platform None h = absurd cc
tells_none platform (Some i) h = h

pub tells_not : (platform : Platform) (set : List Item) (n : List ℕ) → TellsBack platform set n None → IsReadable platform set n → ⊥
tells_not platform set n h = tells_none platform (item_named n set) h

-- all of them are told
pub told_all : (p : List ℕ → Bool) (flags : List Bool) (names : List (List ℕ)) (i : ℕ) → i ≤ length names → length names ≤ i →
    take i flags ≡ map p (take i names) → take (length names) flags ≡ map p names
told_all p flags names i within past h =
    let same : i ≡ length names = omega (arith, within, past) in
    ap (λ (k : ℕ). take k flags) (sym same) ∙ h ∙ ap (map p) (take_all i names past)

-- there is a first where there are some
pub first_some : {A : Type 0} (xs : List A) → (is_some (slice_get xs 0) ≡ true) → xs ≡ [] → ⊥
first_some [] h e = absurd cc
first_some (x ∷ xs) h e = absurd cc

pub some_first : {A : Type 0} (xs : List A) → (xs ≡ [] → ⊥) → is_some (slice_get xs 0) ≡ true
some_first [] h = absurd (h refl)
some_first (x ∷ xs) h = refl

shown : {A B : Type 0} (f : A → B) (r : Option A) → is_some (option_map f r) ≡ is_some r
shown f None = refl
shown f (Some x) = refl

pub has_some : {A : Type 0} (f : A → List ℕ) (r : Option A) (xs : List (List ℕ)) (b : Bool) → option_map f r ≡ slice_get xs 0 → b ≡ is_some r →
    IsTrue b ↔ (xs ≡ [] → ⊥)
has_some f r xs b e is = (
  λ yes. first_some xs (sym (ap is_some e) ∙ shown f r ∙ sym is ∙ yes),
  λ some. is ∙ sym (shown f r) ∙ ap is_some e ∙ some_first xs some,
)

-- ---- the turn to the backs

pub went_back : (origin : Option Origin) (o : Origin) (set : List Item) (q new : Pending) (n : List ℕ) (flags : List Bool) (names : List (List ℕ)) → origin
    ≡ Some o → names ≡ q.plan.boots → MayBreak n q
    → TellBacks o.platform set names flags true → (chosen flags (take (reach_of q) q.plan.boots) ≡ [] → ⊥) →
    new ≡ sent_to (chosen flags (take (reach_of q) q.plan.boots)) q
    → MayGoBack origin set n q × (new ≡ sent_back origin set q)
went_back origin o set q new n flags names is boots may told some sent =
    let readable = subst (AllByRecursion (IsReadable o.platform set)) boots told.0 in
    let flagged = subst (λ (l : List (List ℕ)). take (length l) flags ≡ map (goes_back o.platform set) l) boots told.1 in
    let backs_are : chosen flags (take (reach_of q) q.plan.boots) ≡ backs_of o.platform set q.plan (reach_of q) =
    chosen_told (goes_back o.platform set) flags q.plan.boots (reach_of q) flagged in
    let there : backs_of o.platform set q.plan (reach_of q) ≡ [] → ⊥ = subst (λ (l : List (List ℕ)). l ≡ [] → ⊥) backs_are some in
    subst (λ (x : Option Origin). MayGoBack x set n q × (new ≡ sent_back x set q)) (sym is)
    ((may, (readable, there)), sent ∙ ap (λ (l : List (List ℕ)). sent_to l q) backs_are)

pub untold : (origin : Option Origin) (o : Origin) (set : List Item) (q : Pending) (n : List ℕ) (flags : List Bool) (names : List (List ℕ)) → origin
    ≡ Some o → names ≡ q.plan.boots
    → TellBacks o.platform set names flags false → MayGoBack origin set n q → ⊥
untold origin o set q n flags names is boots told may =
    let one : MayGoBack (Some o) set n q = subst (λ (x : Option Origin). MayGoBack x set n q) is may in
    told (subst (AllByRecursion (IsReadable o.platform set)) (sym boots) one.1.0)

pub no_backs : (origin : Option Origin) (o : Origin) (set : List Item) (q : Pending) (n : List ℕ) (flags : List Bool) (names : List (List ℕ)) → origin
    ≡ Some o → names ≡ q.plan.boots
    → TellBacks o.platform set names flags true → ((chosen flags (take (reach_of q) q.plan.boots) ≡ [] → ⊥) → ⊥) → MayGoBack origin set n q → ⊥
no_backs origin o set q n flags names is boots told none may =
    let one : MayGoBack (Some o) set n q = subst (λ (x : Option Origin). MayGoBack x set n q) is may in
    let flagged = subst (λ (l : List (List ℕ)). take (length l) flags ≡ map (goes_back o.platform set) l) boots told.1 in
    let backs_are : chosen flags (take (reach_of q) q.plan.boots) ≡ backs_of o.platform set q.plan (reach_of q) =
    chosen_told (goes_back o.platform set) flags q.plan.boots (reach_of q) flagged in
    none (λ e. one.1.1 (sym backs_are ∙ e))
