-- What holds of each element of a list holds of each element of its parts, and the other way round: by a walk along the list.
use mathlib.Core.List.{List, [], ◌∷◌, ◌++◌, map}
use Rattle.page.specs.All.{All}

module _ {A : Type 0} (P : A → Type 0) where
  -- of two parts, and so of both together
  pub each_append : (xs ys : List A) → All P xs → All P ys → All P (xs ++ ys)
  each_append [] ys a b = b
  each_append (x ∷ xs) ys a b = (a.0, each_append xs ys a.1 b)

  -- of the whole, and so of its parts
  pub each_left : (xs ys : List A) → All P (xs ++ ys) → All P xs
  each_left [] ys t = tt
  each_left (x ∷ xs) ys t = (t.0, each_left xs ys t.1)

  pub each_right : (xs ys : List A) → All P (xs ++ ys) → All P ys
  each_right [] ys t = t
  each_right (x ∷ xs) ys t = each_right xs ys t.1

  -- of the parts in the other order
  pub each_turn : (xs ys : List A) → All P (xs ++ ys) → All P (ys ++ xs)
  each_turn xs ys t = each_append ys xs (each_right xs ys t) (each_left xs ys t)

  -- of the whole, and so of one element
  pub each_middle : (xs : List A) (y : A) (ys : List A) → All P (xs ++ y ∷ ys) → P y
  each_middle [] y ys t = t.0
  each_middle (x ∷ xs) y ys t = each_middle xs y ys t.1

  -- of the whole, and so without one element
  pub each_remove : (xs : List A) (y : A) (ys : List A) → All P (xs ++ y ∷ ys) → All P (xs ++ ys)
  each_remove [] y ys t = t.1
  each_remove (x ∷ xs) y ys t = (t.0, each_remove xs y ys t.1)

  -- an element more, at any place
  pub each_place : (xs : List A) (y : A) (ys : List A) → P y → All P (xs ++ ys) → All P (xs ++ y ∷ ys)
  each_place [] y ys h t = (h, t)
  each_place (x ∷ xs) y ys h t = (t.0, each_place xs y ys h t.1)

-- a weaker fact of each
pub each_weaken : {A : Type 0} (P Q : A → Type 0) → ((x : A) → P x → Q x) → (xs : List A) → All P xs → All Q xs
each_weaken P Q w [] t = tt
each_weaken P Q w (x ∷ xs) t = (w x t.0, each_weaken P Q w xs t.1)

-- what follows from Q at each
pub each_apply : {A : Type 0} (P Q : A → Type 0) (xs : List A) → All (λ x. Q x → P x) xs → All Q xs → All P xs
each_apply P Q [] f t = tt
each_apply P Q (x ∷ xs) f t = (f.0 t.0, each_apply P Q xs f.1 t.1)

-- a fact of each after f was done to all
pub each_map : {A B : Type 0} (P : A → Type 0) (Q : B → Type 0) (f : A → B) → ((x : A) → P x → Q (f x)) → (xs : List A) → All P xs
    → All Q (map f xs)
each_map P Q f w [] t = tt
each_map P Q f w (x ∷ xs) t = (w x t.0, each_map P Q f w xs t.1)
