mod Blanks
