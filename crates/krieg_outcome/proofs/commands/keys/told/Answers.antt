use Rattle.std.proofs.Common.{◌≡◌, Vec, Global, ℕ, Ok, inl, map, subst}
use Rattle.std.proofs.lemmas.Result.{IfOk-weaker}
use Rattle.krieg_outcome.proofs.Common.{told_of, IsKeyAnswer, AreKeys, keys_text, TellsKeys}
use Rattle.krieg_outcome.proofs.KeyTexts.{roots_told, keys_told}
use Rattle.krieg_outcome.proofs.commands.keys.told.Goals as goal

pub keys_text-requires : goal.keys_text-requires
keys_text-requires c =
    let are : AreKeys c.args.d c.args.who c.args.set.now c.args.moves c.in-Found.keys = subst (λ a. IsKeyAnswer c.args.d c.args.who c.args.set.now c.args.moves (Ok a)) c.in-Found.is c.requires.answer in
    roots_told c.args.d c.args.who c.args.set.now c.args.moves c.in-Found.keys are c.requires.valid c.requires.hand

pub returns-in-Found : goal.returns-in-Found
returns-in-Found c =
    let are : AreKeys c.args.d c.args.who c.args.set.now c.args.moves c.in-Found.keys = subst (λ a. IsKeyAnswer c.args.d c.args.who c.args.set.now c.args.moves (Ok a)) c.in-Found.is c.requires.answer in
    IfOk-weaker c.keys_text.result (λ (text : Vec ℕ Global). text.items ≡ keys_text c.args.d c.args.who c.args.set.now c.in-Found.keys.worst (map told_of c.in-Found.keys.roots.items))
    (λ (text : Vec ℕ Global). TellsKeys c.args.d c.args.who c.args.set.now c.args.moves text.items)
    (λ text is. inl (keys_told c.args.d c.args.who c.args.set.now c.args.moves c.in-Found.keys are (c.keys_are_won.ensures c.args.d) text.items is))
    c.keys_text.ensures
