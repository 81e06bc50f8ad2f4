-- How the readers of comparators and sets follow the grammar.
use Rattle.std.proofs.Common.{◌≡◌, ℕ, List, [], ◌∷◌, ◌++◌, map, Option, Some, None, refl, sym, ap, ◌∙◌, append_assoc, append-nil}
use Rattle.std.specs.Option.{option_map}
use Rattle.npm_ranges.specs.declared.comparator.Sign.{Sign}
use Rattle.npm_ranges.specs.declared.fault.RangeFault.{RangeFault}
use Rattle.npm_ranges.specs.declared.fault.RangeFault.TheVariants as fault
use Rattle.npm_ranges.specs.Grammar.{alone, comparator_of, comparators_of, each_of, joined, lone_sign, number_of, partial_of, parts_partial, set_of, sets_of}
use Rattle.npm_ranges.specs.Grammar.{sign_of, with_sign, words_of, written}
use Rattle.npm_ranges.specs.Reading.{FailsOn, IsFirstComparator}
use Rattle.npm_ranges.specs.Views.{IsFirstWord, seen, set_seen, sets_behind, sets_seen}
use Rattle.std.specs.Borrow.{Bor}
use Rattle.std.proofs.lemmas.List.{map-append}
use Rattle.npm_ranges.specs.declared.comparator.Comparator.{Comparator}
use Rattle.std.specs.declared.alloc.Global.{Global}
use Rattle.std.specs.declared.vec.Vec.{Vec}

-- what was read before, at the beginning
abbrev pub with_prefix : {A : Type 0} → List A → Option (List A) → Option (List A)
with_prefix prefix read = option_map (λ xs. prefix ++ xs) read

-- ---- faults that `?` hands on

pub fails_joined : {A : Type 0} (first : Option A) (others : Option (List A)) (f : RangeFault) → FailsOn first f → FailsOn (joined first others) f
fails_joined first others fault.Bad h = rw h refl
fails_joined first others fault.TooManyParts h = h
fails_joined first others fault.NoMemory h = tt

pub fails_behind : {A : Type 0} (prefix : List A) (read : Option (List A)) (f : RangeFault) → FailsOn read f → FailsOn (with_prefix prefix read) f
fails_behind prefix read fault.Bad h = rw h refl
fails_behind prefix read fault.TooManyParts h = h
fails_behind prefix read fault.NoMemory h = tt

pub fails_as : {A : Type 0} (given other : Option A) (f : RangeFault) → given ≡ other → FailsOn other f → FailsOn given f
fails_as given other f is h = rw is h

-- ---- comparators

pub no_partial : partial_of [] ≡ None
unfolding partial_of parts_partial number_of
no_partial = refl

pub alone_none : (o : Option Sign) (rest : List ℕ) (s : Sign) → alone o rest ≡ Some s → rest ≡ []
alone_none None rest s h = cc h
alone_none (Some t) [] s h = refl
alone_none (Some t) (b ∷ rest) s h = cc h

nothing_signed : (s : Sign) (word : List ℕ) → word ≡ [] → with_sign s (partial_of word) ≡ None
nothing_signed s word is = ap (λ w. with_sign s (partial_of w)) is ∙ ap (with_sign s) no_partial

-- a sign alone and nothing behind it
pub lone_last : (word : List ℕ) (words : List (List ℕ)) (s : Sign) → lone_sign word ≡ Some s → words ≡ [] → comparators_of (word ∷ words) ≡ None
lone_last word words s lone none = rw none (rw (nothing_signed _ (sign_of word).1 (alone_none (sign_of word).0 (sign_of word).1 s lone)) refl)

-- a sign alone and its partial
pub lone_next : (word next : List ℕ) (words rest : List (List ℕ)) (s : Sign) → lone_sign word ≡ Some s → words ≡ next ∷ rest
    → comparators_of (word ∷ words) ≡ joined (with_sign s (partial_of next)) (comparators_of rest)
lone_next word next words rest s lone is = rw (is, lone) refl

pub one_word : (word : List ℕ) (words : List (List ℕ)) → lone_sign word ≡ None → comparators_of (word
    ∷ words) ≡ joined (comparator_of word) (comparators_of words)
one_word word [] lone = refl
one_word word (next ∷ words) lone = rw lone refl

-- ---- loops

pub prefix_more : {A : Type 0} (prefix : List A) (x : A) (others : Option (List A)) → with_prefix prefix (joined (Some x) others) ≡ with_prefix (prefix ++ x
    ∷ []) others
prefix_more prefix x None = refl
prefix_more prefix x (Some xs) = ap (λ ys. Some ys) (sym (append_assoc prefix (x ∷ []) xs))

seen_more : (done new : List Comparator) (c : Comparator) → new ≡ done ++ c ∷ [] → map seen done ++ seen c ∷ [] ≡ map seen new
seen_more done new c is = sym (ap (map seen) is ∙ map-append seen done (c ∷ []))

pub comparators_step : (text rest word after behind : List ℕ) (done new : List Comparator) (c : Comparator)
    → comparators_of (words_of text) ≡ with_prefix (map seen done) (comparators_of (words_of rest)) → IsFirstWord rest word after →
    IsFirstComparator word after (seen c) behind
    → new ≡ done ++ c ∷ [] → comparators_of (words_of text) ≡ with_prefix (map seen new) (comparators_of (words_of behind))
comparators_step text rest word after behind done new c kept first taken is =
    kept ∙ ap (λ ws. with_prefix (map seen done) (comparators_of ws)) first.words ∙ ap (with_prefix (map seen done)) taken.comparators
    ∙ prefix_more (map seen done) (seen c) (comparators_of (words_of behind)) ∙ ap (λ prefix. with_prefix prefix (comparators_of (words_of behind)))
    (seen_more done new c is)

-- ---- sets

prefix_none : {A : Type 0} (read : Option (List A)) → read ≡ with_prefix [] read
prefix_none None = refl
prefix_none (Some xs) = refl

pub sets_start : (text : List ℕ) (done : List (Vec Comparator Global)) → done ≡ [] → written text ≡ with_prefix (sets_seen done) (each_of set_of (sets_of text))
unfolding written
sets_start text done is = rw is (prefix_none (each_of set_of (sets_of text)))

sets_seen_more : (done new : List (Vec Comparator Global)) (s : Vec Comparator Global) → new ≡ done ++ s ∷ [] → sets_seen done ++ set_seen s
    ∷ [] ≡ sets_seen new
sets_seen_more done new s is = sym (ap (map set_seen) is ∙ map-append set_seen done (s ∷ []))

-- what is left of a text, with its first set
left : (text set : List ℕ) (rest : Option (Bor (List ℕ))) (t : Bor (List ℕ)) (others : List (List ℕ)) (done : List (Vec Comparator Global))
    → written text ≡ with_prefix (sets_seen done) (each_of set_of (sets_behind rest)) → rest ≡ Some t → sets_of t.now ≡ set ∷ others
    → written text ≡ with_prefix (sets_seen done) (joined (set_of set) (each_of set_of others))
left text set rest t others done kept is first = kept ∙ ap (λ o. with_prefix (sets_seen done) (each_of set_of (sets_behind o))) is
    ∙ ap (λ ps. with_prefix (sets_seen done) (each_of set_of ps)) first

pub sets_step : (text set : List ℕ) (rest : Option (Bor (List ℕ))) (t : Bor (List ℕ)) (others : List (List ℕ)) (done new : List (Vec Comparator Global))
    (s : Vec Comparator Global)
    → written text ≡ with_prefix (sets_seen done) (each_of set_of (sets_behind rest)) → rest ≡ Some t → sets_of t.now ≡ set ∷ others →
    set_of set ≡ Some (set_seen s)
    → new ≡ done ++ s ∷ [] → written text ≡ with_prefix (sets_seen new) (each_of set_of others)
sets_step text set rest t others done new s kept at first read is =
    left text set rest t others done kept at first ∙ ap (λ o. with_prefix (sets_seen done) (joined o (each_of set_of others))) read
    ∙ prefix_more (sets_seen done) (set_seen s) (each_of set_of others)
    ∙ ap (λ prefix. with_prefix prefix (each_of set_of others)) (sets_seen_more done new s is)

pub sets_fail : (text set : List ℕ) (rest : Option (Bor (List ℕ))) (t : Bor (List ℕ)) (others : List (List ℕ)) (done : List (Vec Comparator Global))
    (f : RangeFault)
    → written text ≡ with_prefix (sets_seen done) (each_of set_of (sets_behind rest)) → rest ≡ Some t → sets_of t.now ≡ set ∷ others →
    FailsOn (set_of set) f → FailsOn (written text) f
sets_fail text set rest t others done f kept at first fails =
    fails_as (written text) (with_prefix (sets_seen done) (joined (set_of set) (each_of set_of others))) f (left text set rest t others done kept at first)
    (fails_behind (sets_seen done) (joined (set_of set) (each_of set_of others)) f (fails_joined (set_of set) (each_of set_of others) f fails))

pub sets_end : (text : List ℕ) (rest : Option (Bor (List ℕ))) (done : List (Vec Comparator Global)) →
    written text ≡ with_prefix (sets_seen done) (each_of set_of (sets_behind rest)) → rest ≡ None
    → written text ≡ Some (sets_seen done)
sets_end text rest done kept none = kept ∙ ap (λ o. with_prefix (sets_seen done) (each_of set_of (sets_behind o))) none
    ∙ ap (λ ys. Some ys) (append-nil (sets_seen done))
