mod Refuted
