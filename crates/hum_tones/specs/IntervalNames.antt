-- The short texts that most notes become: the rows of the names of intervals, and the places in them.
use Rattle.std.specs.Prelude.{ℕ, ℤ, pos, ◌+◌, ◌*◌, ◌-ℤ◌, List, [], ◌∷◌, ◌++◌, take, drop, slice_index_or}
use lib.Chars.{codes}

-- the semitones of the perfect or major interval of each row, and 64
abbrev pub widths : List ℕ
widths =
    9 ∷ 11 ∷ 12 ∷ 14 ∷ 16 ∷ 17 ∷ 19 ∷ 21 ∷ 23 ∷ 24 ∷ 26 ∷ 28 ∷ 29 ∷ 31 ∷ 33 ∷ 35 ∷ 36 ∷ 38 ∷ 40 ∷ 41 ∷ 43 ∷
    45 ∷ 47 ∷ 48 ∷ 50 ∷ 52 ∷ 53 ∷ 55 ∷ 57 ∷ 59 ∷ 60 ∷ 62 ∷ 64 ∷ 66 ∷ 68 ∷ 69 ∷ 71 ∷ 73 ∷ 75 ∷ 76 ∷ 78 ∷ 80 ∷
    81 ∷ 83 ∷ 85 ∷ 87 ∷ 88 ∷ 90 ∷ 92 ∷ 93 ∷ 95 ∷ 97 ∷ 99 ∷ 100 ∷ 102 ∷ 104 ∷ 105 ∷ 107 ∷ 109 ∷ 111 ∷ 112 ∷
    114 ∷ 116 ∷ 117 ∷ []

-- the steps of a row
abbrev pub steps_at : ℕ → ℤ
steps_at row = pos row -ℤ pos 32

-- the semitones of a place in it
abbrev pub semitones_at : ℕ → ℕ → ℤ
semitones_at row from = pos (slice_index_or widths row 0 + from) -ℤ pos 66

-- the names, each in four bytes, and behind them a null token and a rest
abbrev pub names : List ℕ
names =
    codes "....-A33-P33-d33........-A32-P32-d32........-A31-M31-m31-d31....-A30-M30-m30-d30" ++ (
    codes "....-A29-P29-d29........-A28-M28-m28-d28....-A27-M27-m27-d27....-A26-P26-d26...." ++ (
    codes "....-A25-P25-d25........-A24-M24-m24-d24....-A23-M23-m23-d23....-A22-P22-d22...." ++ (
    codes "....-A21-M21-m21-d21....-A20-M20-m20-d20....-A19-P19-d19........-A18-P18-d18...." ++ (
    codes "....-A17-M17-m17-d17....-A16-M16-m16-d16....-A15-P15-d15........-A14-M14-m14-d14" ++ (
    codes "....-A13-M13-m13-d13....-A12-P12-d12........-A11-P11-d11........-A10-M10-m10-d10" ++ (
    codes "....-A9.-M9.-m9.-d9.....-A8.-P8.-d8.........-A7.-M7.-m7.-d7.....-A6.-M6.-m6.-d6." ++ (
    codes "....-A5.-P5.-d5.........-A4.-P4.-d4.........-A3.-M3.-m3.-d3.....-A2.-M2.-m2.-d2." ++ (
    codes "....-A1.P1..+A1.....+d2.+m2.+M2.+A2.....+d3.+m3.+M3.+A3.........+d4.+P4.+A4....." ++ (
    codes "....+d5.+P5.+A5.....+d6.+m6.+M6.+A6.....+d7.+m7.+M7.+A7.........+d8.+P8.+A8....." ++ (
    codes "+d9.+m9.+M9.+A9.....+d10+m10+M10+A10........+d11+P11+A11........+d12+P12+A12...." ++ (
    codes "+d13+m13+M13+A13....+d14+m14+M14+A14........+d15+P15+A15....+d16+m16+M16+A16...." ++ (
    codes "+d17+m17+M17+A17........+d18+P18+A18........+d19+P19+A19....+d20+m20+M20+A20...." ++ (
    codes "+d21+m21+M21+A21........+d22+P22+A22....+d23+m23+M23+A23....+d24+m24+M24+A24...." ++ (
    codes "....+d25+P25+A25........+d26+P26+A26....+d27+m27+M27+A27....+d28+m28+M28+A28...." ++ (
    codes "....+d29+P29+A29....+d30+m30+M30+A30....+d31+m31+M31+A31........+d32+P32+A32...." ++ (
    codes "....r..."))))))))))))))))

-- how many bytes of each count
abbrev pub sizes : List ℕ
sizes =
    0 ∷ 4 ∷ 4 ∷ 4 ∷ 0 ∷ 0 ∷ 4 ∷ 4 ∷ 4 ∷ 0 ∷ 0 ∷ 4 ∷ 4 ∷ 4 ∷ 4 ∷ 0 ∷ 4 ∷ 4 ∷ 4 ∷ 4 ∷ 0 ∷ 4 ∷ 4 ∷ 4 ∷ 0 ∷ 0 ∷
    4 ∷ 4 ∷ 4 ∷ 4 ∷ 0 ∷ 4 ∷ 4 ∷ 4 ∷ 4 ∷ 0 ∷ 4 ∷ 4 ∷ 4 ∷ 0 ∷ 0 ∷ 4 ∷ 4 ∷ 4 ∷ 0 ∷ 0 ∷ 4 ∷ 4 ∷ 4 ∷ 4 ∷ 0 ∷ 4 ∷
    4 ∷ 4 ∷ 4 ∷ 0 ∷ 4 ∷ 4 ∷ 4 ∷ 0 ∷ 0 ∷ 4 ∷ 4 ∷ 4 ∷ 4 ∷ 0 ∷ 4 ∷ 4 ∷ 4 ∷ 4 ∷ 0 ∷ 4 ∷ 4 ∷ 4 ∷ 0 ∷ 0 ∷ 4 ∷ 4 ∷
    4 ∷ 0 ∷ 0 ∷ 4 ∷ 4 ∷ 4 ∷ 4 ∷ 0 ∷ 4 ∷ 4 ∷ 4 ∷ 4 ∷ 0 ∷ 4 ∷ 4 ∷ 4 ∷ 0 ∷ 0 ∷ 4 ∷ 4 ∷ 4 ∷ 4 ∷ 0 ∷ 4 ∷ 4 ∷ 4 ∷
    4 ∷ 0 ∷ 4 ∷ 4 ∷ 4 ∷ 0 ∷ 0 ∷ 4 ∷ 4 ∷ 4 ∷ 0 ∷ 0 ∷ 4 ∷ 4 ∷ 4 ∷ 4 ∷ 0 ∷ 3 ∷ 3 ∷ 3 ∷ 3 ∷ 0 ∷ 3 ∷ 3 ∷ 3 ∷ 0 ∷
    0 ∷ 3 ∷ 3 ∷ 3 ∷ 3 ∷ 0 ∷ 3 ∷ 3 ∷ 3 ∷ 3 ∷ 0 ∷ 3 ∷ 3 ∷ 3 ∷ 0 ∷ 0 ∷ 3 ∷ 3 ∷ 3 ∷ 0 ∷ 0 ∷ 3 ∷ 3 ∷ 3 ∷ 3 ∷ 0 ∷
    3 ∷ 3 ∷ 3 ∷ 3 ∷ 0 ∷ 3 ∷ 2 ∷ 3 ∷ 0 ∷ 3 ∷ 3 ∷ 3 ∷ 3 ∷ 0 ∷ 3 ∷ 3 ∷ 3 ∷ 3 ∷ 0 ∷ 0 ∷ 3 ∷ 3 ∷ 3 ∷ 0 ∷ 0 ∷ 3 ∷
    3 ∷ 3 ∷ 0 ∷ 3 ∷ 3 ∷ 3 ∷ 3 ∷ 0 ∷ 3 ∷ 3 ∷ 3 ∷ 3 ∷ 0 ∷ 0 ∷ 3 ∷ 3 ∷ 3 ∷ 0 ∷ 3 ∷ 3 ∷ 3 ∷ 3 ∷ 0 ∷ 4 ∷ 4 ∷ 4 ∷
    4 ∷ 0 ∷ 0 ∷ 4 ∷ 4 ∷ 4 ∷ 0 ∷ 0 ∷ 4 ∷ 4 ∷ 4 ∷ 0 ∷ 4 ∷ 4 ∷ 4 ∷ 4 ∷ 0 ∷ 4 ∷ 4 ∷ 4 ∷ 4 ∷ 0 ∷ 0 ∷ 4 ∷ 4 ∷ 4 ∷
    0 ∷ 4 ∷ 4 ∷ 4 ∷ 4 ∷ 0 ∷ 4 ∷ 4 ∷ 4 ∷ 4 ∷ 0 ∷ 0 ∷ 4 ∷ 4 ∷ 4 ∷ 0 ∷ 0 ∷ 4 ∷ 4 ∷ 4 ∷ 0 ∷ 4 ∷ 4 ∷ 4 ∷ 4 ∷ 0 ∷
    4 ∷ 4 ∷ 4 ∷ 4 ∷ 0 ∷ 0 ∷ 4 ∷ 4 ∷ 4 ∷ 0 ∷ 4 ∷ 4 ∷ 4 ∷ 4 ∷ 0 ∷ 4 ∷ 4 ∷ 4 ∷ 4 ∷ 0 ∷ 0 ∷ 4 ∷ 4 ∷ 4 ∷ 0 ∷ 0 ∷
    4 ∷ 4 ∷ 4 ∷ 0 ∷ 4 ∷ 4 ∷ 4 ∷ 4 ∷ 0 ∷ 4 ∷ 4 ∷ 4 ∷ 4 ∷ 0 ∷ 0 ∷ 4 ∷ 4 ∷ 4 ∷ 0 ∷ 4 ∷ 4 ∷ 4 ∷ 4 ∷ 0 ∷ 4 ∷ 4 ∷
    4 ∷ 4 ∷ 0 ∷ 0 ∷ 4 ∷ 4 ∷ 4 ∷ 0 ∷ 1 ∷ 1 ∷ []

abbrev pub size_at : ℕ → ℕ
size_at place = slice_index_or sizes place 0

-- the text at a place
abbrev pub text_at : ℕ → List ℕ
text_at place = take (size_at place) (drop (4 * place) names)
