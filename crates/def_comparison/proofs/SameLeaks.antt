-- Of two items of leakage it can be told whether they are the same; so two leakages are the same, or differ first at one command.
use Rattle.std.proofs.Common.{◌≡◌, ◌≢◌, ◌⊎◌, inl, inr, ℕ, Bool, true, false, List, [], ◌∷◌, refl, sym, ap, arith, ⊎_elim, Some, None}
use Rattle.std.specs.Prelude.{Option}
use Rattle.std.proofs.lemmas.Bool.{true≢false}
use Rattle.std.proofs.lemmas.Bool.Decides.{eqb_tells}
use Rattle.def_comparison.proofs.FirstDifferences.{head_is, rest_is, some_is, same_or_differ}
use Rattle.def_comparison.specs.FirstDifference.{IsFirstDifference}
use Rattle.sse_simulator.specs.Leaks.{Origin, Sent, NewEntry, Fresh, Again, Seen, WordLeak, Home, ListedLeak, Leak, SetupLeak, AddLeak, DeleteLeak, SearchLeak}
use Rattle.two_level.specs.Shape.{Shape}

-- whether it holds is told
abbrev Told : Type 0 → Type 0
Told P = P ⊎ (P → ⊥)

both : {P Q : Type 0} → Told P → Told Q → Told (P × Q)
both (inr fails) q = inr (λ h. fails h.0)
both (inl holds) (inr fails) = inr (λ h. fails h.1)
both (inl holds) (inl too) = inl (holds, too)

like : {P Q : Type 0} → (P → Q) → (Q → P) → Told P → Told Q
like f g (inl holds) = inl (f holds)
like f g (inr fails) = inr (λ q. fails (g q))

numbers : (m n : ℕ) → Told (m ≡ n)
numbers m n = ⊎_elim (λ h. inl h.1) (λ h. inr h.1) (eqb_tells m n)

flags : (a b : Bool) → Told (a ≡ b)
flags true true = inl refl
flags false false = inl refl
flags true false = inr true≢false
flags false true = inr (λ e. true≢false (sym e))

module _ {A : Type 0} (told : (x y : A) → Told (x ≡ y)) where
  options : (a b : Option A) → Told (a ≡ b)
  options None None = inl refl
  options None (Some y) = inr (λ e. absurd (let no : None ≡ Some y = e in cc))
  options (Some x) None = inr (λ e. absurd (let no : Some x ≡ None = e in cc))
  options (Some x) (Some y) = like (ap (λ (z : A). Some z)) (some_is x y) (told x y)

  lists : (xs ys : List A) → Told (xs ≡ ys)
  lists [] [] = inl refl
  lists [] (y ∷ ys) = inr (λ e. absurd (let no : [] ≡ y ∷ ys = e in cc))
  lists (x ∷ xs) [] = inr (λ e. absurd (let no : x ∷ xs ≡ [] = e in cc))
  lists (x ∷ xs) (y ∷ ys) = like (λ e. λ i. e.0 i ∷ e.1 i) (λ e. (head_is x y xs ys e, rest_is x y xs ys e)) (both (told x y) (lists xs ys))

shapes : (x y : Shape) → Told (x ≡ y)
shapes x y = like (λ e. λ i. record { b = e.0 i; big = e.1 i }) (λ e. (ap (λ (s : Shape). s.b) e, ap (λ (s : Shape). s.big) e)) (both (numbers x.b y.b) (numbers x.big y.big))

origins : (x y : Origin) → Told (x ≡ y)
origins x y =
    like (λ e. λ i. record { command = e.0 i; place = e.1 i }) (λ e. (ap (λ (s : Origin). s.command) e, ap (λ (s : Origin). s.place) e))
    (both (numbers x.command y.command) (numbers x.place y.place))

seens : (x y : Seen) → Told (x ≡ y)
seens x y = like (λ e. λ i. record { search = e.0 i; id = e.1 i }) (λ e. (ap (λ (s : Seen). s.search) e, ap (λ (s : Seen). s.id) e)) (both (numbers x.search y.search) (numbers x.id y.id))

homes : (x y : Home) → Told (x ≡ y)
homes x y =
    like (λ e. λ i. record { entry = e.0 i; blocks = e.1 i }) (λ e. (ap (λ (s : Home). s.entry) e, ap (λ (s : Home). s.blocks) e))
    (both (numbers x.entry y.entry) (lists numbers x.blocks y.blocks))

sents : (x y : Sent) → Told (x ≡ y)
sents NewEntry NewEntry = inl refl
sents NewEntry Fresh = inr (λ e. absurd (let no : NewEntry ≡ Fresh = e in cc))
sents NewEntry (Again y) = inr (λ e. absurd (let no : NewEntry ≡ Again y = e in cc))
sents Fresh NewEntry = inr (λ e. absurd (let no : Fresh ≡ NewEntry = e in cc))
sents Fresh Fresh = inl refl
sents Fresh (Again y) = inr (λ e. absurd (let no : Fresh ≡ Again y = e in cc))
sents (Again x) NewEntry = inr (λ e. absurd (let no : Again x ≡ NewEntry = e in cc))
sents (Again x) Fresh = inr (λ e. absurd (let no : Again x ≡ Fresh = e in cc))
sents (Again x) (Again y) = like (ap (λ (o : Origin). Again o)) inside (origins x y)
  where
    inside : Again x ≡ Again y → x ≡ y
    inside e = cc

words : (x y : WordLeak) → Told (x ≡ y)
words x y =
    like (λ e. λ i. record { sent = e.0 i; seen = e.1 i }) (λ e. (ap (λ (s : WordLeak). s.sent) e, ap (λ (s : WordLeak). s.seen) e))
    (both (sents x.sent y.sent) (options seens x.seen y.seen))

pairs : (x y : ListedLeak) → Told (x ≡ y)
pairs x y =
    like (λ e. λ i. record { id = e.0.0 i; origin = e.0.1 i; number = e.1.0 i; revoked = e.1.1 i })
    (λ e. ((ap (λ (s : ListedLeak). s.id) e, ap (λ (s : ListedLeak). s.origin) e), (ap (λ (s : ListedLeak). s.number) e, ap (λ (s : ListedLeak). s.revoked) e)))
    (both (both (numbers x.id y.id) (origins x.origin y.origin)) (both (options origins x.number y.number) (flags x.revoked y.revoked)))

abbrev kind : Leak → ℕ
kind (SetupLeak shape words blocks) = 0
kind (AddLeak words) = 1
kind (DeleteLeak words) = 2
kind (SearchLeak earlier home listed found) = 3

-- whether two items are the same
pub told_apart : (x y : Leak) → (x ≡ y) ⊎ (x ≢ y)
told_apart (SetupLeak s m a) (SetupLeak s2 m2 a2) = like (λ e. λ i. SetupLeak (e.0 i) (e.1.0 i) (e.1.1 i)) inside (both (shapes s s2) (both (numbers m m2) (numbers a a2)))
  where
    inside : SetupLeak s m a ≡ SetupLeak s2 m2 a2 → (s ≡ s2) × ((m ≡ m2) × (a ≡ a2))
    inside e = (cc, (cc, cc))
told_apart (AddLeak ws) (AddLeak ws2) = like (ap (λ (l : List WordLeak). AddLeak l)) inside (lists words ws ws2)
  where
    inside : AddLeak ws ≡ AddLeak ws2 → ws ≡ ws2
    inside e = cc
told_apart (DeleteLeak ws) (DeleteLeak ws2) = like (ap (λ (l : List WordLeak). DeleteLeak l)) inside (lists words ws ws2)
  where
    inside : DeleteLeak ws ≡ DeleteLeak ws2 → ws ≡ ws2
    inside e = cc
told_apart (SearchLeak earlier home listed found) (SearchLeak earlier2 home2 listed2 found2) =
    like (λ e. λ i. SearchLeak (e.0.0 i) (e.0.1 i) (e.1.0 i) (e.1.1 i)) inside
    (both (both (options numbers earlier earlier2) (options homes home home2)) (both (lists pairs listed listed2) (lists numbers found found2)))
  where
    inside : SearchLeak earlier home listed found ≡ SearchLeak earlier2 home2 listed2 found2 → ((earlier ≡ earlier2) × (home ≡ home2)) × ((listed ≡ listed2) × (found ≡ found2))
    inside e = ((cc, cc), (cc, cc))
told_apart x y = inr (λ e. absurd (let other : kind x ≡ kind y = ap kind e in omega (arith, other)))

-- two leakages are the same, or there is a command at which they differ first
pub same_or_differ_first : (left right : List Leak) → (left ≡ right) ⊎ ((k : ℕ) × IsFirstDifference k left right)
same_or_differ_first left right = same_or_differ told_apart left right
