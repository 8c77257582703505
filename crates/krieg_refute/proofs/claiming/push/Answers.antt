use Rattle.std.proofs.Common.{◌≡◌, ℕ, ◌+◌, ◌<◌, ◌++◌, ◌∷◌, [], List, length, refl, ap, sym, subst, ◌∙◌, min, arith, rules}
use Rattle.std.proofs.lemmas.List.{map-append, length-map}
use Rattle.std.proofs.lemmas.List.Elements.{All-push, All-same}
use Rattle.krieg_refute.proofs.Common.{Pos, place_of, Stands, AreFew, AreMany, positions_in, reasons_in, chess, set_at, Draft, claim_over, claims_over, Question, claims_of, most_claims, most_claimed, pairs_in}
use Rattle.krieg_theory.specs.Sets.{In}
use Rattle.krieg_theory.proofs.Lists.{in_map}
use Rattle.krieg_claims.specs.Written as written
use Rattle.krieg_refutation.specs.declared.refutation.Claim.{Claim}
use Rattle.krieg_refute.proofs.Pushing.{claims_are, pairs_more, all_numbered, stand, place_is, too_many, still_few}
use Rattle.krieg_refute.proofs.claiming.push.Goals as goal

pub returns-then-not-are_few : goal.returns-then-not-are_few
returns-then-not-are_few c =
    let d = c.args.setting.now.way.d in
    let T = c.args.table.now in
    let w = c.args.claimed.now in
    let one : Claim = record { moves = c.args.asked.moves; set = set_at T c.args.asked.set; reasons = c.args.reasons } in
    let a : Question = c.args.asked in
    let own = c.requires.claimed in
    let cs = claims_over T w.claims.items in
    let is = claims_are d T w.places.keys cs one a c.requires.within own.numbered own.stands own.are c.requires.next (λ i. set_at T c.args.asked.set) (λ i. c.args.asked.moves) in
    let had = own.positions_part in
    let members = c.in_ok-members.ensures in
    let positions : c.saturating_add-positions.result ≡ min (positions_in (chess d) (claims_of d cs) + length (set_at T c.args.asked.set)) 18446744073709551615 = c.saturating_add-positions.ensures ∙ (λ i. min (had i + members i) 18446744073709551615) in
    let given = own.reasons_part in
    let new : c.len.result ≡ length c.args.reasons.items = c.len.ensures ∙ search rules in
    let reasons : c.saturating_add-count.result ≡ min (reasons_in (chess d) (claims_of d cs) + length c.args.reasons.items) 18446744073709551615 = c.saturating_add-count.ensures ∙ (λ i. min (given i + new i) 18446744073709551615) in
    let had_claims : c.len-2.result ≡ length w.claims.items = c.len-2.ensures ∙ search rules in
    let count : c.len-2.result ≡ length cs = had_claims ∙ sym (length-map w.claims.items (claim_over T)) in
    subst (λ cs. AreMany (chess d) most_claims most_claimed cs) is
    (too_many d cs one c.len-2.result c.saturating_add-positions.result c.saturating_add-count.result 18446744073709551615 c.are_few.result count (omega arith) positions reasons c.are_few.ensures.1 c.if-not-are_few.true)

pub add-requires : goal.add-requires
add-requires c = λ i.
    c.requires.next.fresh (in_map {Y = List Pos × ℕ} (λ (k : Question). (set_at c.args.table.now k.set, k.moves)) c.args.claimed.now.places.keys c.args.asked i)

pub returns : goal.returns
returns c =
    let d = c.args.setting.now.way.d in
    let T = c.args.table.now in
    let w = c.args.claimed.now in
    let keys = w.places.keys in
    let cs = claims_over T w.claims.items in
    let B = set_at T c.args.asked.set in
    let draft : Draft = record { moves = c.args.asked.moves; set = c.args.asked.set; reasons = c.args.reasons } in
    let one = claim_over T draft in
    let a : Question = c.args.asked in
    let own = c.requires.claimed in
    let next = c.requires.next in
    let set : B ≡ B = refl in
    let k = c.in_ok-add.ensures.places in
    let more = c.in_ok-add.ensures.claims in
    let p : claims_over T c.add.new.claimed.claims.items ≡ cs ++ one ∷ [] = ap (claims_over T) more ∙ map-append (claim_over T) w.claims.items (draft ∷ []) in
    let is = claims_are d T keys cs one a c.requires.within own.numbered own.stands own.are next set (λ i. c.args.asked.moves) in
    let pairs : pairs_in T c.add.new.claimed.places.keys ≡ pairs_in T keys ++ (set_at T c.args.asked.set, c.args.asked.moves) ∷ [] = ap (pairs_in T) k ∙ pairs_more d T keys cs one a c.requires.within own.numbered own.stands own.are next set (λ i. c.args.asked.moves) in
    let had = own.positions_part in
    let members = c.in_ok-members.ensures in
    let positions : c.saturating_add-positions.result ≡ min (positions_in (chess d) (claims_of d cs) + length B) 18446744073709551615 = c.saturating_add-positions.ensures ∙ (λ i. min (had i + members i) 18446744073709551615) in
    let given = own.reasons_part in
    let new : c.len.result ≡ length c.args.reasons.items = c.len.ensures ∙ search rules in
    let reasons : c.saturating_add-count.result ≡ min (reasons_in (chess d) (claims_of d cs) + length c.args.reasons.items) 18446744073709551615 = c.saturating_add-count.ensures ∙ (λ i. min (given i + new i) 18446744073709551615) in
    let had_claims : c.len-2.result ≡ length w.claims.items = c.len-2.ensures ∙ search rules in
    let count : c.len-2.result ≡ length cs = had_claims ∙ sym (length-map w.claims.items (claim_over T)) in
    let few = still_few d cs one c.len-2.result c.saturating_add-positions.result c.saturating_add-count.result 18446744073709551615 count (omega arith) positions reasons (c.are_few.ensures.0 c.if-not-are_few.false) in
    let has_claims : c.len-3.result ≡ length c.add.new.claimed.claims.items = c.len-3.ensures ∙ search rules in
    let last : c.len-3.result ≡ length (claims_over T c.add.new.claimed.claims.items) = has_claims ∙ sym (length-map c.add.new.claimed.claims.items (claim_over T)) in (
      record {
        numbered = λ x i. all_numbered d T keys cs one a c.requires.within own.numbered own.stands own.are next set (λ i. c.args.asked.moves) x (subst (In x) k i);
        stands = subst (Stands (chess d) []) (sym pairs) (stand d T keys cs one a c.requires.within own.numbered own.stands own.are next set (λ i. c.args.asked.moves));
        within = All-same (λ (x : Draft). x.set < length T) _ _ more (All-push (λ (x : Draft). x.set < length T) w.claims.items draft own.within c.requires.within);
        are = ap (claims_of d) p ∙ is ∙ ap (written.claims_of (chess d)) (sym pairs);
        positions_part = few.0 ∙ ap (λ (xs : List Claim). positions_in (chess d) (claims_of d xs)) (sym p);
        reasons_part = few.1 ∙ ap (λ (xs : List Claim). reasons_in (chess d) (claims_of d xs)) (sym p);
        few = subst (λ (xs : List Claim). AreFew (chess d) most_claims most_claimed (claims_of d xs)) (sym p) few.2;
      },
      pairs,
      place_is d T keys cs one a c.requires.within own.numbered own.stands own.are next set (λ i. c.args.asked.moves) c.len-3.result (last ∙ ap length p)
          ∙ ap (λ (R : List (List Pos × ℕ)). place_of (chess d) R (set_at T c.args.asked.set, c.args.asked.moves)) (sym pairs),
    )
