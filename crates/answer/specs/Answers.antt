-- 01, "One byte in, one answer out", 27 and 29 by 02, T-01 and T-06: the number of each answer, and how many bytes it sends. Assumes nothing.
use Rattle.std.specs.Prelude.{ℕ}
use Rattle.answer.specs.declared.Answer.{Answer}
use Rattle.answer.specs.declared.Answer.TheVariants.{Taken, Acked, Done, Nacked, Refused, Framing, Runt, Oversize, BadCrc, Elsewhere, Unfitted, BadStrap, BadEdac, BadFram, BadSums, BadDiagnostics, BadBuffers, BadCount, BadPort, BadLimit}

abbrev pub number_of : Answer → ℕ
number_of Taken = 0
number_of (Acked n) = 1
number_of Done = 2
number_of (Nacked n) = 3
number_of Refused = 4
number_of Framing = 5
number_of Runt = 6
number_of Oversize = 7
number_of BadCrc = 8
number_of Elsewhere = 9
number_of Unfitted = 10
number_of BadStrap = 20
number_of BadEdac = 21
number_of BadFram = 22
number_of BadSums = 23
number_of BadDiagnostics = 24
number_of BadBuffers = 25
number_of BadCount = 26
number_of BadPort = 27
number_of BadLimit = 29

abbrev pub sent_of : Answer → ℕ
sent_of Taken = 0
sent_of (Acked n) = n
sent_of Done = 0
sent_of (Nacked n) = n
sent_of Refused = 0
sent_of Framing = 0
sent_of Runt = 0
sent_of Oversize = 0
sent_of BadCrc = 0
sent_of Elsewhere = 0
sent_of Unfitted = 0
sent_of BadStrap = 0
sent_of BadEdac = 0
sent_of BadFram = 0
sent_of BadSums = 0
sent_of BadDiagnostics = 0
sent_of BadBuffers = 0
sent_of BadCount = 0
sent_of BadPort = 0
sent_of BadLimit = 0
