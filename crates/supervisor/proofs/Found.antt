-- The component of a name, where it is found at a place.
use Rattle.std.proofs.Common.{◌≡◌, ◌<◌, ℕ, suc, zero, List, [], ◌∷◌, length, Bool, true, false, refl, sym, ap, ◌∙◌, arith, subst, get_or}
use Rattle.std.specs.Prelude.{◌&&◌, ◌||◌}
use Rattle.std.specs.List.{list_any}
use Rattle.std.specs.Str.{bytes_eq}
use Rattle.std.proofs.lemmas.Bool.{or_parts, or_left, or_right, and_right}
use Rattle.components.specs.Flags.{with_flags}
use Rattle.components.specs.Marks.{Flagged, is_flagged, needs_flagged}
use Rattle.components.specs.Readied.{AreNamesApart}
use Rattle.components.specs.Turns.{is_met}
use Rattle.components.specs.Components.{ComponentState, At, component_name}
use Rattle.components.proofs.Names.{names, flips, same_name}

none_other : (t : ComponentState → Bool) (p : ComponentState) (n : List ℕ) (b : Bool) → bytes_eq n (component_name p) ≡ false → b ≡ false →
    ((bytes_eq (component_name p) n && t p) || b) ≡ false
none_other t p n b e f = ap (λ (x : Bool). (x && t p) || b) (flips (component_name p) n ∙ e) ∙ f

met_none : (t : ComponentState → Bool) (ps : List ComponentState) (n : List ℕ) → list_any (bytes_eq n) (names ps) ≡ false → is_met t ps n ≡ false
met_none t [] n e = refl
met_none t (p ∷ ps) n e =
    let o = or_parts (bytes_eq n (component_name p)) (list_any (bytes_eq n) (names ps)) e in
    none_other t p n (is_met t ps n) o.0 (met_none t ps n o.1)

-- a name that stands elsewhere is another one
other_name : (m n : List ℕ) (ps : List ComponentState) (k : ℕ) → list_any (bytes_eq m) (names ps) ≡ false →
    At k (λ p. bytes_eq n (component_name p) ≡ true) ps → bytes_eq m n ≡ false
other_name m n [] k e h = absurd h
other_name m n (p ∷ ps) zero e h =
    let o = or_parts (bytes_eq m (component_name p)) (list_any (bytes_eq m) (names ps)) e in
    subst (λ (x : List ℕ). bytes_eq m x ≡ false) (sym (same_name n (component_name p) h)) o.0
other_name m n (p ∷ ps) (suc k) e h =
    let o = or_parts (bytes_eq m (component_name p)) (list_any (bytes_eq m) (names ps)) e in
    other_name m n ps k o.1 h

only_this : (a b c : Bool) → a ≡ true → c ≡ false → b ≡ ((a && b) || c)
only_this true true c e f = refl
only_this true false c e f = sym f
only_this false b c e f = absurd (cc)

not_this : (a b c : Bool) → a ≡ false → c ≡ ((a && b) || c)
not_this true b c e = absurd (cc)
not_this false b c e = refl

-- names stand once, so the one that is here is the only one that is so
pub met_here : (t : ComponentState → Bool) (ps : List ComponentState) (k : ℕ) (n : List ℕ) (x : ComponentState) → AreNamesApart (names ps) →
    At k (λ p. bytes_eq n (component_name p) ≡ true) ps → x ≡ get_or ps k x → t x ≡ is_met t ps n
met_here t [] k n x a h e = absurd h
met_here t (p ∷ ps) zero n x a h e =
    let g : x ≡ p = e in
    let f : list_any (bytes_eq n) (names ps) ≡ false = subst (λ (m : List ℕ). list_any (bytes_eq m) (names ps) ≡ false)
    (sym (same_name n (component_name p) h)) a.0 in
    ap t g ∙ only_this (bytes_eq (component_name p) n) (t p) (is_met t ps n) (flips (component_name p) n ∙ h) (met_none t ps n f)
met_here t (p ∷ ps) (suc k) n x a h e =
    met_here t ps k n x a.1 h e ∙ not_this (bytes_eq (component_name p) n) (t p) (is_met t ps n) (other_name (component_name p) n ps k a.0 h)

-- ---- flags

pub any_flagged : (ns : List (List ℕ)) (fs : Flagged) (k : ℕ) (x : List ℕ) → k < length ns → x ≡ get_or ns k x → is_flagged x fs ≡ true →
    needs_flagged ns fs ≡ true
any_flagged [] fs k x l e h = absurd (omega (arith, l))
any_flagged (m ∷ ms) fs zero x l e h = let g : x ≡ m = e in or_left (is_flagged m fs) (needs_flagged ms fs) (ap (λ (y : List ℕ). is_flagged y fs) (sym g) ∙ h)
any_flagged (m ∷ ms) fs (suc k) x l e h = or_right (is_flagged m fs) (needs_flagged ms fs) (any_flagged ms fs k x (omega (arith, l)) e h)

no_flag : (p : ComponentState) (b : Bool) (n : List ℕ) → bytes_eq n (component_name p) ≡ false → (b && bytes_eq (component_name p) n) ≡ false
no_flag p b n e = and_right b (bytes_eq (component_name p) n) (flips (component_name p) n ∙ e)

flagged_none : (ps : List ComponentState) (bs : List Bool) (n : List ℕ) → list_any (bytes_eq n) (names ps) ≡ false → is_flagged n (with_flags ps bs) ≡ false
flagged_none [] bs n e = refl
flagged_none (p ∷ ps) [] n e = refl
flagged_none (p ∷ ps) (b ∷ bs) n e =
    let o = or_parts (bytes_eq n (component_name p)) (list_any (bytes_eq n) (names ps)) e in
    ap (λ (x : Bool). x || is_flagged n (with_flags ps bs)) (no_flag p b n o.0) ∙ flagged_none ps bs n o.1

this_flag : (b c d : Bool) → c ≡ true → d ≡ false → b ≡ ((b && c) || d)
this_flag true true d e f = refl
this_flag true false d e f = absurd (cc)
this_flag false c d e f = sym f

other_flag : (c d : Bool) → c ≡ false → d ≡ (c || d)
other_flag true d e = absurd (cc)
other_flag false d e = refl

-- names stand once, so the flag of the one that is here is the flag of its name
pub flagged_place : (ps : List ComponentState) (bs : List Bool) (k : ℕ) (n : List ℕ) → length bs ≡ length ps → AreNamesApart (names ps) →
    At k (λ p. bytes_eq n (component_name p) ≡ true) ps → get_or bs k false ≡ is_flagged n (with_flags ps bs)
flagged_place [] bs k n m a h = absurd h
flagged_place (p ∷ ps) [] k n m a h = absurd (omega (arith, m))
flagged_place (p ∷ ps) (b ∷ bs) zero n m a h =
    let f : list_any (bytes_eq n) (names ps) ≡ false = subst (λ (x : List ℕ). list_any (bytes_eq x) (names ps) ≡ false)
    (sym (same_name n (component_name p) h)) a.0 in
    this_flag b (bytes_eq (component_name p) n) (is_flagged n (with_flags ps bs)) (flips (component_name p) n ∙ h) (flagged_none ps bs n f)
flagged_place (p ∷ ps) (b ∷ bs) (suc k) n m a h =
    let o : (b && bytes_eq (component_name p) n) ≡ false = and_right b (bytes_eq (component_name p) n) (other_name (component_name p) n ps k a.0 h) in
    flagged_place ps bs k n (omega (arith, m)) a.1 h ∙ other_flag (b && bytes_eq (component_name p) n) (is_flagged n (with_flags ps bs)) o
