use Rattle.krieg_refutefile.proofs.Common.{state_of_denial}
use Rattle.krieg_refutefile.proofs.Sizes.{text_short}
use Rattle.krieg_refutefile.proofs.RefutationTexts.{again}
use Rattle.krieg_refutefile.proofs.WrittenClaims.{are_told}
use Rattle.krieg_refutefile.proofs.writing.write_denial.Goals as goal

pub denial_lines-requires : goal.denial_lines-requires
denial_lines-requires c = are_told c.args.denial.dialect 1 c.args.denial.claims.items c.requires.told

pub returns-clause-again : goal.returns-clause-again
returns-clause-again c = again (state_of_denial c.args.denial) c.requires

pub returns-clause-short : goal.returns-clause-short
returns-clause-short c = text_short (state_of_denial c.args.denial) c.requires
