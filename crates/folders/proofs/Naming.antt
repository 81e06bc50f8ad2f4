-- The names under which something stands, line by line.
use Rattle.std.proofs.Common.{◌≡◌, ◌⊎◌, ◌<◌, ◌+◌, ◌↔◌, List, ℕ, [], ◌∷◌, ◌++◌, Bool, true, false, ◌&&◌, not, Option, Some, None, refl, sym, ◌∙◌, ap, subst, inl, inr, nat_eq}
use Rattle.std.proofs.Common.{get_or, length, take, add-one, IsSome, is_some, if◌then◌else◌}
use Rattle.std.specs.List.{Contains}
use Rattle.std.specs.Cmp.Lexicographic.{pointwise}
use Rattle.std.proofs.Math.Seq.{take-suc}
use Rattle.std.proofs.lemmas.List.Elements.{Contains-append_left, Contains-push, Contains-push_cases}
use Rattle.folders.specs.History.{File}
use Rattle.folders.specs.declared.lines.Side.{Side}
use Rattle.folders.specs.declared.lines.Line.{Line}
use Rattle.folders.specs.Lines.{stands_in, mentions, names_it, about, put_by, new_of, new_name_of}
use Rattle.folders.proofs.Histories.{same_names, own_name, either}

if_old : (b m : Bool) (p q r : Option File) → (if b then true else m) ≡ true → (m ≡ true → q ≡ r) → (if b then p else q) ≡ (if b then p else r)
if_old true m p q r h k = refl
if_old false m p q r h k = k h

if_new : (b m : Bool) (p q r : Option File) → (if b then true else m) ≡ false → (m ≡ false → q ≡ r) → (if b then p else q) ≡ r
if_new true m p q r h k = absurd (cc)
if_new false m p q r h k = k h

-- a line after newer ones says nothing of what they are about, and is the one that counts otherwise
stands_old : (side : Side) (lines : List Line) (line : Line) (name : List ℕ) → mentions side lines name ≡ true
    → stands_in side (lines ++ line ∷ []) name ≡ stands_in side lines name
stands_old side [] line name h = absurd (cc)
stands_old side (x ∷ lines) line name h = if_old (names_it (about side x) name) (mentions side lines name) (put_by side x)
    (stands_in side (lines ++ line ∷ []) name) (stands_in side lines name) h (stands_old side lines line name)

stands_new : (side : Side) (lines : List Line) (line : Line) (name : List ℕ) → mentions side lines name ≡ false
    → stands_in side (lines ++ line ∷ []) name ≡ (if names_it (about side line) name then put_by side line else None)
stands_new side [] line name h = refl
stands_new side (x ∷ lines) line name h = if_new (names_it (about side x) name) (mentions side lines name) (put_by side x)
    (stands_in side (lines ++ line ∷ []) name) (if names_it (about side line) name then put_by side line else None) h (stands_new side lines line name)

unmentioned : (side : Side) (lines : List Line) (name : List ℕ) → mentions side lines name ≡ false → stands_in side lines name ≡ None
unmentioned side [] name h = refl
unmentioned side (x ∷ lines) name h = if_new (names_it (about side x) name) (mentions side lines name) (put_by side x) (stands_in side lines name) None h
    (unmentioned side lines name)

at_if : (b c : Bool) (p q : Option File) → b ≡ c → (if b then p else q) ≡ (if c then p else q)
at_if b c p q h = ap (λ (x : Bool). if x then p else q) h

-- where no name is new
nothing_put : (put : Option File) (m : Bool) (name : List ℕ) → m ≡ false
    → ◌≡◌ {A = Option (List ℕ)} (if is_some put && not m then Some name else None) None → put ≡ None
nothing_put None m name h none = refl
nothing_put (Some p) true name h none = absurd (cc)
nothing_put (Some p) false name h none = absurd (cc)

puts_nothing : (own : Option (List ℕ)) (put : Option File) (seen : List ℕ → Bool) (name : List ℕ) → new_of own put seen ≡ None → seen name ≡ false
    → (if names_it own name then put else None) ≡ None
puts_nothing None put seen name none unseen = refl
puts_nothing (Some own) put seen name none unseen = elim (either (pointwise nat_eq own name)) [
  | inl is ↦ at_if (pointwise nat_eq own name) true put None is
      ∙ nothing_put put (seen own) own (ap seen (same_names own name is) ∙ unseen) none
  | inr is ↦ at_if (pointwise nat_eq own name) false put None is
]

same_stand : (side : Side) (lines : List Line) (line : Line) (name : List ℕ) → new_name_of side lines line ≡ None
    → stands_in side (lines ++ line ∷ []) name ≡ stands_in side lines name
same_stand side lines line name none = elim (either (mentions side lines name)) [
  | inl old ↦ stands_old side lines line name old
  | inr new ↦ stands_new side lines line name new
      ∙ puts_nothing (about side line) (put_by side line) (mentions side lines) name none new ∙ sym (unmentioned side lines name new)
]

abbrev pub AreNamed : Side → List (List ℕ) → List Line → Type 0
AreNamed side names lines = (name : List ℕ) → Contains names name ↔ IsSome (stands_in side lines name)

on_none : (side : Side) (names : List (List ℕ)) (lines : List Line) (line : Line) → AreNamed side names lines → new_name_of side lines line ≡ None
    → AreNamed side names (lines ++ line ∷ [])
on_none side names lines line h none name = (
  λ there. subst (λ (o : Option File). IsSome o) (sym (same_stand side lines line name none)) ((h name).0 there),
  λ stands. (h name).1 (subst (λ (o : Option File). IsSome o) (same_stand side lines line name none) stands),
)

-- where there is a new one
record IsNew (own : Option (List ℕ)) (put : Option File) (seen : List ℕ → Bool) (new : List ℕ) : Type 0 where
  own_is : own ≡ Some new
  puts : IsSome put
  unseen : seen new ≡ false

is_new_some : (put : Option File) (m : Bool) (own new : List ℕ) → ◌≡◌ {A = Option (List ℕ)} (if is_some put && not m then Some own else None) (Some new)
    → IsSome put × (m ≡ false) × (own ≡ new)
is_new_some None m own new h = absurd (cc)
is_new_some (Some p) true own new h = absurd (cc)
is_new_some (Some p) false own new h = (refl, refl, cc)

is_new : (own : Option (List ℕ)) (put : Option File) (seen : List ℕ → Bool) (new : List ℕ) → new_of own put seen ≡ Some new → IsNew own put seen new
is_new None put seen new h = absurd (cc)
is_new (Some own) put seen new h = let found = is_new_some put (seen own) own new h in record {
  own_is = ap Some found.2;
  puts = found.0;
  unseen = ap seen (sym found.2) ∙ found.1;
}

none_there : IsSome {T = File} None → ⊥
none_there k = absurd (cc)

-- the name of the line, or another
at_own : (own : Option (List ℕ)) (new name : List ℕ) → own ≡ Some new → (names_it own name ≡ pointwise nat_eq new name)
at_own own new name is = ap (λ (o : Option (List ℕ)). names_it o name) is

module _ (side : Side) (names : List (List ℕ)) (lines : List Line) (line : Line) (new : List ℕ) (h : AreNamed side names lines)
    (is : IsNew (about side line) (put_by side line) (mentions side lines) new) where
  here : IsSome (stands_in side (lines ++ line ∷ []) new)
  here = subst (λ (o : Option File). IsSome o) (sym (stands_new side lines line new is.unseen
      ∙ at_if (names_it (about side line) new) true (put_by side line) None (at_own (about side line) new new is.own_is ∙ own_name new))) is.puts

  to_stands : (name : List ℕ) → Contains (names ++ new ∷ []) name → IsSome (stands_in side (lines ++ line ∷ []) name)
  to_stands name there = elim (Contains-push_cases names new name there) [
    | inl before ↦ elim (either (mentions side lines name)) [
      | inl old ↦ subst (λ (o : Option File). IsSome o) (sym (stands_old side lines line name old)) ((h name).0 before)
      | inr fresh ↦ absurd (none_there (subst (λ (o : Option File). IsSome o) (unmentioned side lines name fresh) ((h name).0 before)))
    ]
    | inr same ↦ subst (λ (n : List ℕ). IsSome (stands_in side (lines ++ line ∷ []) n)) same here
  ]

  to_name : (name : List ℕ) → IsSome (stands_in side (lines ++ line ∷ []) name) → Contains (names ++ new ∷ []) name
  to_name name stands = elim (either (mentions side lines name)) [
    | inl old ↦ Contains-append_left names (new ∷ []) name ((h name).1 (subst (λ (o : Option File). IsSome o)
        (stands_old side lines line name old) stands))
    | inr fresh ↦ elim (either (pointwise nat_eq new name)) [
      | inl same ↦ subst (Contains (names ++ new ∷ [])) (same_names new name same) (Contains-push names new)
      | inr other ↦ absurd (none_there (subst (λ (o : Option File). IsSome o) (stands_new side lines line name fresh
          ∙ at_if (names_it (about side line) name) false (put_by side line) None (at_own (about side line) new name is.own_is ∙ other)) stands))
    ]
  ]

-- ---- by the place in the lines

up_to : (lines : List Line) (k : ℕ) (line : Line) → k < length lines → line ≡ get_or lines k line → take k lines ++ line ∷ [] ≡ take (k + 1) lines
up_to lines k line within is = ap (λ (y : Line). take k lines ++ y ∷ []) is ∙ sym (take-suc lines k line within) ∙ ap (λ (n : ℕ). take n lines) (sym (add-one k))

pub passes : (side : Side) (names : List (List ℕ)) (lines : List Line) (k : ℕ) (line : Line) → k < length lines → line ≡ get_or lines k line
    → AreNamed side names (take k lines) → new_name_of side (take k lines) line ≡ None → AreNamed side names (take (k + 1) lines)
passes side names lines k line within is h none = subst (AreNamed side names) (up_to lines k line within is) (on_none side names (take k lines) line h none)

pub takes : (side : Side) (names : List (List ℕ)) (lines : List Line) (k : ℕ) (line : Line) (new : List ℕ) → k < length lines → line ≡ get_or lines k line
    → AreNamed side names (take k lines) → new_name_of side (take k lines) line ≡ Some new → AreNamed side (names ++ new ∷ []) (take (k + 1) lines)
takes side names lines k line new within is h fresh = subst (AreNamed side (names ++ new ∷ [])) (up_to lines k line within is)
    (λ name. (
      to_stands side names (take k lines) line new h (is_new (about side line) (put_by side line) (mentions side (take k lines)) new fresh) name,
      to_name side names (take k lines) line new h (is_new (about side line) (put_by side line) (mentions side (take k lines)) new fresh) name,
    ))
