-- How the logic stores the data of a configuration: as the steps of a machine that builds it up again.
use Rattle.std.specs.Prelude.{◌≡◌, ℕ, ℤ, pos, List, [], ◌∷◌, ◌++◌, true, false, cond, ◌==◌, refl}
use Rattle.std.specs.Float.{Float, nan}
use Rattle.std.specs.Coded.{Coded, code_by, coded×, coded_ℕ, coded_ℤ, coded_list}
use base.Stored.{coded_float}
use mathlib.Core.Path.{ap, ◌∙◌, sym}
use Rattle.serde_json.specs.Data.{Data, Num, Items, Members, null, boolean, number, string, array, object, no_items, item, no_members, member, unsigned}
use Rattle.serde_json.specs.Data.{negative, float}

-- a step: what it does, and the text, the numbers or the float that it brings
abbrev Brick : Type 0
Brick = ℕ × (List ℕ × (ℕ × (ℤ × Float)))

abbrev plain : ℕ → Brick
plain t = (t, ([], (0, (pos 0, nan))))

abbrev texted : ℕ → List ℕ → Brick
texted t s = (t, (s, (0, (pos 0, nan))))

abbrev num_brick : Num → Brick
num_brick (unsigned n) = (3, ([], (n, (pos 0, nan))))
num_brick (negative z) = (4, ([], (0, (z, nan))))
num_brick (float x) = (5, ([], (0, (pos 0, x))))

abbrev mutual
  bricks : Data → List Brick
  bricks null = plain 0 ∷ []
  bricks (boolean true) = plain 1 ∷ []
  bricks (boolean false) = plain 2 ∷ []
  bricks (number n) = num_brick n ∷ []
  bricks (string s) = texted 6 s ∷ []
  bricks (array ds) = item_bricks ds ++ plain 7 ∷ []
  bricks (object ms) = member_bricks ms ++ plain 8 ∷ []

  item_bricks : Items → List Brick
  item_bricks no_items = plain 9 ∷ []
  item_bricks (item d ds) = bricks d ++ (item_bricks ds ++ plain 10 ∷ [])

  member_bricks : Members → List Brick
  member_bricks no_members = plain 11 ∷ []
  member_bricks (member k d ms) = bricks d ++ (member_bricks ms ++ texted 12 k ∷ [])

-- what is built so far: data, lists of items and lists of members
abbrev Built : Type 0
Built = List Data × (List Items × List Members)

abbrev data_of : List Data → Data
data_of [] = null
data_of (d ∷ ds) = d

abbrev datas_of : List Data → List Data
datas_of [] = []
datas_of (d ∷ ds) = ds

abbrev items_of : List Items → Items
items_of [] = no_items
items_of (i ∷ is) = i

abbrev itemss_of : List Items → List Items
itemss_of [] = []
itemss_of (i ∷ is) = is

abbrev members_of : List Members → Members
members_of [] = no_members
members_of (m ∷ ms) = m

abbrev memberss_of : List Members → List Members
memberss_of [] = []
memberss_of (m ∷ ms) = ms

abbrev do_step : Brick → Built → Built
do_step b s =
    cond (b.0 == 0) (null ∷ s.0, s.1) (cond (b.0 == 1) (boolean true ∷ s.0, s.1) (cond (b.0 == 2) (boolean false ∷ s.0, s.1)
    (cond (b.0 == 3) (number (unsigned b.1.1.0) ∷ s.0, s.1) (cond (b.0 == 4) (number (negative b.1.1.1.0) ∷ s.0, s.1)
    (cond (b.0 == 5) (number (float b.1.1.1.1) ∷ s.0, s.1)
    (cond (b.0 == 6) (string b.1.0 ∷ s.0, s.1)
    (cond (b.0 == 7) (array (items_of s.1.0) ∷ s.0, (itemss_of s.1.0, s.1.1))
    (cond (b.0 == 8) (object (members_of s.1.1) ∷ s.0, (s.1.0, memberss_of s.1.1))
    (cond (b.0 == 9) (s.0, (no_items ∷ s.1.0, s.1.1))
    (cond (b.0 == 10) (datas_of s.0, (item (data_of s.0) (items_of s.1.0) ∷ itemss_of s.1.0, s.1.1))
    (cond (b.0 == 11) (s.0, (s.1.0, no_members ∷ s.1.1))
    (datas_of s.0, (s.1.0, member b.1.0 (data_of s.0) (members_of s.1.1) ∷ memberss_of s.1.1)))))))))))))

abbrev run : List Brick → Built → Built
run [] s = s
run (b ∷ bs) s = run bs (do_step b s)

append_again : (xs ys zs : List Brick) → (xs ++ ys) ++ zs ≡ xs ++ (ys ++ zs)
append_again [] ys zs = refl
append_again (x ∷ xs) ys zs = ap (λ (l : List Brick). x ∷ l) (append_again xs ys zs)

append_none : (xs : List Brick) → xs ++ [] ≡ xs
append_none [] = refl
append_none (x ∷ xs) = ap (λ (l : List Brick). x ∷ l) (append_none xs)

mutual
  runs : (d : Data) (bs : List Brick) (s : Built) → run (bricks d ++ bs) s ≡ run bs (d ∷ s.0, s.1)
  runs null bs s = refl
  runs (boolean true) bs s = refl
  runs (boolean false) bs s = refl
  runs (number (unsigned n)) bs s = refl
  runs (number (negative z)) bs s = refl
  runs (number (float x)) bs s = refl
  runs (string t) bs s = refl
  runs (array ds) bs s = ap (λ (l : List Brick). run l s) (append_again (item_bricks ds) (plain 7 ∷ []) bs) ∙ runs_items ds (plain 7 ∷ bs) s
  runs (object ms) bs s = ap (λ (l : List Brick). run l s) (append_again (member_bricks ms) (plain 8 ∷ []) bs) ∙ runs_members ms (plain 8 ∷ bs) s

  runs_items : (ds : Items) (bs : List Brick) (s : Built) → run (item_bricks ds ++ bs) s ≡ run bs (s.0, (ds ∷ s.1.0, s.1.1))
  runs_items no_items bs s = refl
  runs_items (item d ds) bs s =
      ap (λ (l : List Brick). run l s) (append_again (bricks d) (item_bricks ds ++ plain 10 ∷ []) bs)
      ∙ runs d ((item_bricks ds ++ plain 10 ∷ []) ++ bs) s
      ∙ ap (λ (l : List Brick). run l (d ∷ s.0, s.1)) (append_again (item_bricks ds) (plain 10 ∷ []) bs)
      ∙ runs_items ds (plain 10 ∷ bs) (d ∷ s.0, s.1)

  runs_members : (ms : Members) (bs : List Brick) (s : Built) → run (member_bricks ms ++ bs) s ≡ run bs (s.0, (s.1.0, ms ∷ s.1.1))
  runs_members no_members bs s = refl
  runs_members (member k d ms) bs s =
      ap (λ (l : List Brick). run l s) (append_again (bricks d) (member_bricks ms ++ texted 12 k ∷ []) bs)
      ∙ runs d ((member_bricks ms ++ texted 12 k ∷ []) ++ bs) s
      ∙ ap (λ (l : List Brick). run l (d ∷ s.0, s.1)) (append_again (member_bricks ms) (texted 12 k ∷ []) bs)
      ∙ runs_members ms (texted 12 k ∷ bs) (d ∷ s.0, s.1)

abbrev built_by : List Brick → Data
built_by bs = data_of (run bs ([], ([], []))).0

pub built_again : (d : Data) → built_by (bricks d) ≡ d
built_again d =
    ap (λ (l : List Brick). built_by l) (sym (append_none (bricks d)))
    ∙ ap (λ (s : Built). data_of s.0) (runs d [] ([], ([], [])))

abbrev pub data_code : Coded Data
data_code = code_by (List Brick) (coded_list (coded× coded_ℕ (coded× (coded_list coded_ℕ) (coded× coded_ℕ (coded× coded_ℤ coded_float))))) bricks built_by
    built_again
