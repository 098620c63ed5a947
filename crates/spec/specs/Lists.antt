-- Tests on lists, and lists put together. Assumes nothing.
use Rattle.std.specs.Prelude.{List, [], ◌∷◌, ◌++◌, Bool, true, false, cond, ◌&&◌, ◌||◌, ℕ, suc, eqb}

-- Some element passes the test; every element does.
unfoldable pub any_of : {A : Type 0} → (A → Bool) → List A → Bool
any_of p [] = false
any_of p (x ∷ xs) = p x || any_of p xs

unfoldable pub every : {A : Type 0} → (A → Bool) → List A → Bool
every p [] = true
every p (x ∷ xs) = p x && every p xs

-- The elements that pass the test, in their order.
unfoldable pub passing : {A : Type 0} → (A → Bool) → List A → List A
passing p [] = []
passing p (x ∷ xs) = cond (p x) (x ∷ passing p xs) (passing p xs)

unfoldable pub equal_list : List ℕ → List ℕ → Bool
equal_list [] [] = true
equal_list [] (y ∷ ys) = false
equal_list (x ∷ xs) [] = false
equal_list (x ∷ xs) (y ∷ ys) = eqb x y && equal_list xs ys

-- Lists one behind the other.
unfoldable pub joined : {A : Type 0} → List (List A) → List A
joined [] = []
joined (xs ∷ xss) = xs ++ joined xss

-- From place i on, f of the elements at whose place p holds; the others as they are.
unfoldable pub map_where : {A : Type 0} → (p : ℕ → Bool) → (A → A) → (i : ℕ) → List A → List A
map_where p f i [] = []
map_where p f i (x ∷ xs) = cond (p i) (f x) x ∷ map_where p f (suc i) xs

-- The last element; d where there is none.
unfoldable pub last_of : {A : Type 0} → (d : A) → List A → A
last_of d [] = d
last_of d (x ∷ xs) = last_of x xs
