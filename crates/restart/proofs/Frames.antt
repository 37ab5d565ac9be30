-- Laws of the reference run: where it stays and where it goes on, what it gives and takes between two tallies, and that what is given twice is no news.
-- Assumes nothing.
use Prim.Native.Nat.{ℕ, zero, suc, ◌+◌, ◌-◌, ◌≤◌, ◌<◌, max}
use mathlib.Core.Path.{◌≡◌, refl, sym, ◌∙◌, ap}
use mathlib.Core.Bool.{true, false, cond, ◌&&◌, ◌||◌, or_assoc, or-true}
use mathlib.Core.List.{List, [], ◌∷◌, ◌++◌, append_assoc, append-nil}
use native.Mathlib.Nat.{zero-add, suc-add}
use native.Mathlib.Decide.{dec_le, le_ind}
use native.Mathlib.Omega.{arith}
use borrow.Author.Tests.{ltb-true, lt-ltb, eqb-true, eq-eqb, ne_eqb, not-false}
use lib.IntN.{ℤ, pos, negsuc}
use lib.ListN.{length, take}
use lib.Dec.{eqb}
use Rattle.instruction.specs.Bytes.{byte}
use Rattle.program.proofs.Tests.{bool_cases, or-none}
use Rattle.execution.specs.Effects.{Effect, stops, on, goes, writes, takes, gives, sets, saves, readings_after, outputs_after}
use Rattle.step.specs.Step.{given_by, taken_by}
use Rattle.restart.specs.Reference.{Frame, Numbered, numbered_from, frame_after, reading_at, effect_in, stays, next_frame, output_at, taken_at, gathered, ref_at, emitted, taken}
use Rattle.restart.specs.Claim.{same_value, stands, distinct}

-- ---- lists of outputs

-- an output stands in two parts if it stands in one of them
pub stands-append : (o : Numbered) (xs ys : List Numbered) → stands o (xs ++ ys) ≡ (stands o xs || stands o ys)
unfolding stands
stands-append o [] ys = refl
stands-append o (x ∷ xs) ys =
    let b = eqb o.number x.number && same_value o.value x.value in
    rw (stands-append o xs ys) (sym (or_assoc b (stands o xs) (stands o ys)))

-- a value is the same as itself
same_refl : (v : ℤ) → same_value v v ≡ true
same_refl (pos a) = eq-eqb a a refl
same_refl (negsuc a) = eq-eqb a a refl

-- it stands at its own place
pub stands-there : (o : Numbered) (xs ys : List Numbered) → stands o (xs ++ o ∷ ys) ≡ true
unfolding stands
stands-there o xs ys = rw (stands-append o xs (o ∷ ys), eq-eqb o.number o.number refl, same_refl o.value) (or-true (stands o xs))

-- one part after the other
pub distinct_append : (seen os ps : List Numbered) → distinct seen (os ++ ps) ≡ distinct (distinct seen os) ps
unfolding distinct
distinct_append seen [] ps = refl
distinct_append seen (o ∷ os) ps = distinct_append (cond (stands o seen) seen (seen ++ o ∷ [])) os ps

-- what one command gives, m outputs being given before it, and their count after it: nothing, or one output with the next number
data Gives (m : ℕ) : List Numbered → ℕ → Type 0 where
  nothing : Gives m [] m
  one : (v : ℤ) → Gives m (record { number = m; value = v } ∷ []) (suc m)

-- an effect gives so, and takes no reading back
effect-counts : (e : Effect) (n m : ℕ) → (n ≤ readings_after e n) × Gives m (numbered_from m (given_by e)) (outputs_after e m)
unfolding numbered_from
effect-counts (stops k) n m = (omega arith, nothing)
effect-counts on n m = (omega arith, nothing)
effect-counts (goes t) n m = (omega arith, nothing)
effect-counts (writes d v) n m = (omega arith, nothing)
effect-counts (takes d v) n m = (omega arith, nothing)
effect-counts (gives v) n m = (omega arith, one v)
effect-counts sets n m = (omega arith, nothing)
effect-counts saves n m = (omega arith, nothing)

-- the count of outputs does not fall
gives-rise : {m k : ℕ} {os : List Numbered} → Gives m os k → m ≤ k
gives-rise nothing = omega arith
gives-rise (one v) = omega arith

-- an output with a higher number is not among them
gives-below : {m k : ℕ} {os : List Numbered} → Gives m os k → (o : Numbered) → k ≤ o.number → stands o os ≡ false
unfolding stands
gives-below nothing o h = refl
gives-below {m} (one v) o h = rw (ne_eqb o.number m λ e. omega arith)

-- given where they stand they are no news
gives-old : {m k : ℕ} {os : List Numbered} → Gives m os k → (xs ys : List Numbered) → distinct (xs ++ (os ++ ys)) os ≡ xs ++ (os ++ ys)
unfolding distinct
gives-old nothing xs ys = refl
gives-old (one v) xs ys = rw (stands-there _ xs ys)

-- given where nothing with their number stands they are
gives-new : {m k : ℕ} {os : List Numbered} → Gives m os k → (seen : List Numbered) → ((o : Numbered) → m ≤ o.number → stands o seen ≡ false)
    → distinct seen os ≡ seen ++ os
unfolding distinct
gives-new nothing seen h = sym (append-nil seen)
gives-new {m} (one v) seen h = rw (h (record { number = m; value = v }) (omega arith))

module _ (p : List ℕ) (ρ : List ℤ) where
  -- ---- one command

  -- it goes on where it is not stopped, and has a reading where it stands at a READ
  pub goes_on : (f : Frame) → f.stop ≡ 0 → (byte p f.pc ≡ 0x07 → f.readings < length ρ) → stays p ρ f ≡ false
  unfolding stays
  goes_on f s r =
      let b = eqb (byte p f.pc) 0x07 in
      rw (eq-eqb f.stop 0 s) (bool_cases b (λ e. rw (e, lt-ltb f.readings (length ρ) (r (eqb-true _ _ e)))) (λ e. rw e))

  -- it is not stopped, and has a reading where it stands at a READ
  pub running : (f : Frame) → stays p ρ f ≡ false → (f.stop ≡ 0) × (byte p f.pc ≡ 0x07 → f.readings < length ρ)
  unfolding stays
  running f h =
      let s = or-none _ _ h in
      (eqb-true f.stop 0 (not-false _ s.0), λ e. ltb-true f.readings (length ρ) (not-false _ (rw (eq-eqb (byte p f.pc) 0x07 e) at s.1)))

  -- stopped it stays
  pub stopped-stays : (f : Frame) → ¬ (f.stop ≡ 0) → stays p ρ f ≡ true
  unfolding stays
  stopped-stays f h = rw (ne_eqb f.stop 0 h)

  -- the next frame where it goes on
  pub next-on : (f : Frame) → stays p ρ f ≡ false → next_frame p ρ f ≡ frame_after p (effect_in p ρ f) f
  unfolding next_frame
  next-on f h = rw h

  -- and where it stays
  pub next-same : (f : Frame) → stays p ρ f ≡ true → next_frame p ρ f ≡ f
  unfolding next_frame
  next-same f h = rw h

  -- what it gives where it goes on
  pub output_on : (f : Frame) → stays p ρ f ≡ false → output_at p ρ f ≡ numbered_from f.outputs (given_by (effect_in p ρ f))
  unfolding output_at
  output_on f h = rw h

  -- and what it takes
  pub taken-on : (f : Frame) → stays p ρ f ≡ false → taken_at p ρ f ≡ numbered_from f.readings (take (taken_by (effect_in p ρ f)) (reading_at p ρ f ∷ []))
  unfolding taken_at
  taken-on f h = rw h

  -- the counts after the next command
  next-counts : (f : Frame) → (f.readings ≤ (next_frame p ρ f).readings) × Gives f.outputs (output_at p ρ f) (next_frame p ρ f).outputs
  unfolding next_frame output_at frame_after
  next-counts f =
      bool_cases (stays p ρ f) (λ s. rw s (omega arith, nothing)) (λ s. rw s (effect-counts (effect_in p ρ f) f.readings f.outputs))

  -- ---- commands one after the other

  -- k commands after a commands are b commands
  ref-add : (f : Frame) (a k b : ℕ) → a + k ≡ b → ref_at p ρ (ref_at p ρ f a) k ≡ ref_at p ρ f b
  unfolding ref_at
  ref-add f a zero b e = let z : b ≡ a = omega arith in rw z
  ref-add f a (suc k) b e = let z : b ≡ suc (a + k) = omega arith in rw z (ap (next_frame p ρ) (ref-add f a k (a + k) refl))

  -- over two stretches
  gathered-add : (g : Frame → List Numbered) (f : Frame) (j k : ℕ) → gathered p ρ g f (j + k) ≡ gathered p ρ g f j ++ gathered p ρ g (ref_at p ρ f j) k
  unfolding gathered ref_at
  gathered-add g f zero k = rw (zero-add k)
  gathered-add g f (suc j) k =
      let n = next_frame p ρ f in
      rw (suc-add j k, gathered-add g n j k, ref-add f 1 j (suc j) (omega arith)) (sym (append_assoc (g f) (gathered p ρ g n j) _))

  -- where the run stays nothing is given
  gathered-stays : (f : Frame) → stays p ρ f ≡ true → (k : ℕ) → gathered p ρ (output_at p ρ) f k ≡ []
  unfolding gathered output_at
  gathered-stays f s zero = refl
  gathered-stays f s (suc k) = rw (s, next-same f s) (gathered-stays f s k)

  module _ (f₀ : Frame) where
    -- ---- the run

    -- where it stays, it stays for ever
    pub ref-stays : (t k : ℕ) → stays p ρ (ref_at p ρ f₀ t) ≡ true → t ≤ k → ref_at p ρ f₀ k ≡ ref_at p ρ f₀ t
    unfolding ref_at
    ref-stays t k s l = le_ind (λ z. ref_at p ρ f₀ z ≡ ref_at p ρ f₀ t) refl (λ z q i. rw i (next-same (ref_at p ρ f₀ t) s)) k l

    -- a count that no command lowers rises
    rise : (c : Frame → ℕ) → ((f : Frame) → c f ≤ c (next_frame p ρ f)) → (a b : ℕ) → a ≤ b → c (ref_at p ρ f₀ a) ≤ c (ref_at p ρ f₀ b)
    unfolding ref_at
    rise c h a b l = le_ind (λ z. c (ref_at p ρ f₀ a) ≤ c (ref_at p ρ f₀ z)) (omega arith) (λ z q i. omega (arith, h (ref_at p ρ f₀ z))) b l

    -- the count of readings rises
    pub readings_rise : (a b : ℕ) → a ≤ b → (ref_at p ρ f₀ a).readings ≤ (ref_at p ρ f₀ b).readings
    readings_rise = rise (λ f. f.readings) λ f. (next-counts f).0

    -- and so does that of outputs
    pub outputs_rise : (a b : ℕ) → a ≤ b → (ref_at p ρ f₀ a).outputs ≤ (ref_at p ρ f₀ b).outputs
    outputs_rise = rise (λ f. f.outputs) λ f. gives-rise (next-counts f).1

    -- ---- what it gives and takes between tallies

    -- between a tally and itself
    between_none : (g : Frame → List Numbered) (a : ℕ) → gathered p ρ g (ref_at p ρ f₀ a) (a - a) ≡ []
    unfolding gathered
    between_none g a = let z : a - a ≡ 0 = omega arith in rw z

    -- over one command
    between-one : (g : Frame → List Numbered) (a : ℕ) → gathered p ρ g (ref_at p ρ f₀ a) (suc a - a) ≡ g (ref_at p ρ f₀ a)
    unfolding gathered
    between-one g a = let z : suc a - a ≡ 1 = omega arith in rw z (append-nil (g (ref_at p ρ f₀ a)))

    -- over two stretches
    between_join : (g : Frame → List Numbered) (a b c : ℕ) → a ≤ b → b ≤ c
        → gathered p ρ g (ref_at p ρ f₀ a) (c - a) ≡ gathered p ρ g (ref_at p ρ f₀ a) (b - a) ++ gathered p ρ g (ref_at p ρ f₀ b) (c - b)
    between_join g a b c l m =
        let z : c - a ≡ (b - a) + (c - b) = omega arith in
        rw (z, gathered-add g (ref_at p ρ f₀ a) (b - a) (c - b), ref-add f₀ a (b - a) b (omega arith))

    -- these for the outputs
    pub emitted-none : (a : ℕ) → emitted p ρ f₀ a a ≡ []
    unfolding emitted
    emitted-none = between_none (output_at p ρ)

    pub emitted-one : (a : ℕ) → emitted p ρ f₀ a (suc a) ≡ output_at p ρ (ref_at p ρ f₀ a)
    unfolding emitted
    emitted-one = between-one (output_at p ρ)

    pub emitted-join : (a b c : ℕ) → a ≤ b → b ≤ c → emitted p ρ f₀ a c ≡ emitted p ρ f₀ a b ++ emitted p ρ f₀ b c
    unfolding emitted
    emitted-join = between_join (output_at p ρ)

    -- and for the readings
    pub taken_none : (a : ℕ) → taken p ρ f₀ a a ≡ []
    unfolding taken
    taken_none = between_none (taken_at p ρ)

    pub taken-one : (a : ℕ) → taken p ρ f₀ a (suc a) ≡ taken_at p ρ (ref_at p ρ f₀ a)
    unfolding taken
    taken-one = between-one (taken_at p ρ)

    pub taken-join : (a b c : ℕ) → a ≤ b → b ≤ c → taken p ρ f₀ a c ≡ taken p ρ f₀ a b ++ taken p ρ f₀ b c
    unfolding taken
    taken-join = between_join (taken_at p ρ)

    -- where it stays nothing more is given
    pub emitted-stays : (a t k : ℕ) → a ≤ t → t ≤ k → stays p ρ (ref_at p ρ f₀ t) ≡ true → emitted p ρ f₀ a k ≡ emitted p ρ f₀ a t
    unfolding emitted
    emitted-stays a t k l m s =
        between_join (output_at p ρ) a t k l m ∙ rw (gathered-stays (ref_at p ρ f₀ t) s (k - t)) (append-nil (emitted p ρ f₀ a t))

    -- one command more
    emitted-next : (a b : ℕ) → a ≤ b → emitted p ρ f₀ a (suc b) ≡ emitted p ρ f₀ a b ++ output_at p ρ (ref_at p ρ f₀ b)
    emitted-next a b l = rw (emitted-join a b (suc b) l (omega arith), emitted-one b)

    -- ---- repetitions aside

    -- the outputs that the next command gives, and the count then
    ref-gives : (t : ℕ) → Gives (ref_at p ρ f₀ t).outputs (output_at p ρ (ref_at p ρ f₀ t)) (ref_at p ρ f₀ (suc t)).outputs
    unfolding ref_at
    ref-gives t = (next-counts (ref_at p ρ f₀ t)).1

    -- the numbers given up to h are below the count there
    emitted-below : (a h : ℕ) → a ≤ h → (o : Numbered) → (ref_at p ρ f₀ h).outputs ≤ o.number → stands o (emitted p ρ f₀ a h) ≡ false
    unfolding stands
    emitted-below a h l =
        le_ind (λ z. (o : Numbered) → (ref_at p ρ f₀ z).outputs ≤ o.number → stands o (emitted p ρ f₀ a z) ≡ false)
        (λ o _. rw (emitted-none a))
        (λ z q i o n.
        rw (emitted-next a z q, stands-append o (emitted p ρ f₀ a z) (output_at p ρ (ref_at p ρ f₀ z)), i o (omega (arith, gives-rise (ref-gives z))))
        (gives-below (ref-gives z) o n))
        h l

    -- one command's outputs are among those up to h, or are the next ones
    news-one : (a t h : ℕ) → a ≤ t → distinct (emitted p ρ f₀ a (max h t)) (output_at p ρ (ref_at p ρ f₀ t)) ≡ emitted p ρ f₀ a (max h (suc t))
    news-one a t h l = go (dec_le (suc t) h)
      where
        go : Dec (suc t ≤ h) → distinct (emitted p ρ f₀ a (max h t)) (output_at p ρ (ref_at p ρ f₀ t)) ≡ emitted p ρ f₀ a (max h (suc t))
        go (yes q) =
            let m : max h t ≡ h = omega arith in
            let n : max h (suc t) ≡ h = omega arith in
            rw (m, n, emitted-join a t h l (omega arith), emitted-join t (suc t) h (omega arith) q, emitted-one t)
            (gives-old (ref-gives t) (emitted p ρ f₀ a t) (emitted p ρ f₀ (suc t) h))
        go (no q) =
            let m : max h t ≡ t = omega arith in
            let n : max h (suc t) ≡ suc t = omega arith in
            rw (m, n, emitted-next a t l) (gives-new (ref-gives t) (emitted p ρ f₀ a t) (emitted-below a t l))

    -- what is given from t on, up to where h lies or past it, adds to the outputs up to h those behind h alone
    pub news : (a t t' h : ℕ) → a ≤ t → t ≤ t' → t ≤ h → distinct (emitted p ρ f₀ a h) (emitted p ρ f₀ t t') ≡ emitted p ρ f₀ a (max h t')
    unfolding distinct
    news a t t' h l m n =
        le_ind (λ z. distinct (emitted p ρ f₀ a h) (emitted p ρ f₀ t z) ≡ emitted p ρ f₀ a (max h z))
        (rw (emitted-none t) (ap (emitted p ρ f₀ a) (omega arith)))
        (λ z q i.
        rw (emitted-next t z q, distinct_append (emitted p ρ f₀ a h) (emitted p ρ f₀ t z) (output_at p ρ (ref_at p ρ f₀ z)), i)
        (news-one a z h (omega arith)))
        t' m
