mod Nests
