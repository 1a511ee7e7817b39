-- A property of every entry of a list: of lists joined, reordered, and of each entry.
use mathlib.Core.Path.{sym, subst}
use mathlib.Core.List.{List, ◌++◌, Memᴰ, Permᴰ}
use Rattle.base.specs.Each.{Each, nil, cons}

pub each_append : {A : Type 0} {P : A → Type 0} {xs ys : List A} → Each P xs → Each P ys → Each P (xs ++ ys)
each_append nil k = k
each_append (cons p h) k = cons p (each_append h k)

pub each_perm : {A : Type 0} {P : A → Type 0} {xs ys : List A} → Permᴰ xs ys → Each P ys → Each P xs
each_perm Permᴰ.nil h = nil
each_perm {P = P} (Permᴰ.cons e w) (cons p h) = cons (subst P (sym e) p) (each_perm w h)
each_perm {P = P} (Permᴰ.swap e f) (cons p (cons q h)) = cons (subst P (sym e) q) (cons (subst P (sym f) p) h)
each_perm (Permᴰ.trans w v) h = each_perm w (each_perm v h)

pub each_mem : {A : Type 0} {P : A → Type 0} {xs : List A} → Each P xs → {x : A} → Memᴰ x xs → P x
each_mem {A = A} {P = P} nil x6 = elim x6 [ ]
each_mem {P = P} (cons p h) (Memᴰ.head e) = subst P (sym e) p
each_mem (cons p h) (Memᴰ.tail m) = each_mem h m

pub each_map : {A : Type 0} {P Q : A → Type 0} {xs : List A} → ((x : A) → P x → Q x) → Each P xs → Each Q xs
each_map f nil = nil
each_map f (cons {x = x} p h) = cons (f x p) (each_map f h)

pub each_both : {A : Type 0} {P Q : A → Type 0} {xs : List A} → Each P xs → Each Q xs → Each (λ x. P x × Q x) xs
each_both nil nil = nil
each_both (cons p h) (cons q k) = cons (p, q) (each_both h k)
