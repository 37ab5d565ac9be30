-- The sum over the words is the number of members, and a word has at most 64.
use Rattle.std.proofs.Common.{◌∙◌, ◌≡◌, List, ℕ, [], ◌∷◌, length, slice_index, arith, rules, refl}
use Rattle.std.proofs.lemmas.Iterator.{YieldsList-from_map, YieldsList-from_slice}
use Rattle.std.proofs.lemmas.Iterator.Consumers.{YieldsList-at, sum_by_from_yields_List, fits_by_from_yields_list}
use lib.Count.{ones}
use Rattle.cellset.proofs.Ranks.{counted, counted-le}
use Rattle.cellset.proofs.count.Goals as goal

-- a list of four is made of its places: the code as it stands does not need this, a twin of an edit that writes the four words out does
four : (ws : List ℕ) → length ws ≡ 4 → ws ≡ (slice_index ws 0 ∷ slice_index ws 1 ∷ slice_index ws 2 ∷ slice_index ws 3 ∷ [])
four [] e = absurd (omega arith)
four (p ∷ []) e = absurd (omega arith)
four (p ∷ q ∷ []) e = absurd (omega arith)
four (p ∷ q ∷ r ∷ []) e = absurd (omega arith)
four (p ∷ q ∷ r ∷ t ∷ []) e = refl
four (p ∷ q ∷ r ∷ t ∷ u ∷ s) e = absurd (omega arith)

pub sum-requires-clause-fits : goal.sum-requires-clause-fits
sum-requires-clause-fits c =
    fits_by_from_yields_list ones c.args.a.words c.map.result _
    (YieldsList-from_map _ ones (YieldsList-at c.map.ensures.source (YieldsList-from_slice c.args.a.words (search (rules, four c.args.a.words (search rules))))) c.map.ensures.closure (λ x r q k. search rules))
    (omega (arith, counted-le c.args.a.words (search rules) (λ i. search rules)))

pub returns : goal.returns
returns c =
    sum_by_from_yields_List ones c.args.a.words c.map.result c.sum.result c.sum.ensures.ran
    (YieldsList-from_map _ ones (YieldsList-at c.map.ensures.source (YieldsList-from_slice c.args.a.words (search (rules, four c.args.a.words (search rules))))) c.map.ensures.closure (λ x r q k. search rules))
    ∙ counted c.args.a.words (search rules) (λ i. search rules)
